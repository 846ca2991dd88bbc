-- "Storing the image in a processor is one more call, and it names all E bytes": it is accepted where the sizes are right, and only there; the
-- EEPROM is then the image, each byte of which the call names, and no word of the settings.
use Prim.Native.Nat.{ℕ, ◌≤◌, ◌<◌}
use mathlib.Core.Path.{◌≡◌, refl, sym, ap}
use mathlib.Core.Option.{none, some}
use mathlib.Core.List.{List}
use native.Mathlib.Nat.{sub-zero}
use native.Mathlib.Omega.{arith}
use lib.ListN.{length}
use Rattle.octets.specs.Outcome.{Outcome, accepted}
use Rattle.octets.specs.Number.{at, Octets}
use Rattle.octets.proofs.Choosing.{below, above, same, either_lt, either-eq, refused-accepted}
use Rattle.processor.specs.Memory.{Memory, memory}
use Rattle.history.specs.History.{in_eeprom, in_settings, Call, store-image, leaves, answer, named, last_stored}

module _ (image : List ℕ) (octets : Octets image) (m : Memory) where
  abbrev e : ℕ
  e = length m.eeprom

  abbrev s : ℕ
  s = length m.settings

  abbrev call : Call
  call = store-image image octets

  pub image-stored : length image ≡ e → e ≤ 65536 → leaves call m ≡ (accepted tt, memory image m.settings)
  image-stored whole sized =
      let stored = above 65536 e _ _ _ sized (same (length image) e _ _ _ whole refl) in
      ap (λ (left : Outcome Unit × List ℕ). (left.0, memory left.1 m.settings)) (sym stored)

  pub image-accepted : answer call m ≡ accepted tt → (length image ≡ e) × (e ≤ 65536)
  image-accepted =
      either_lt P _ _ _ _ (λ h no. absurd (refused-accepted no)) (λ sized. either-eq P _ _ _ _ (λ whole yes. (whole, sized)) (λ h no. absurd (refused-accepted no)))
    where
      P : Outcome Unit × List ℕ → Type 0
      P left = left.0 ≡ accepted tt → (length image ≡ e) × (e ≤ 65536)

  pub image-names-all : length image ≡ e → (i : ℕ) → i < e → last_stored (named e s call) (in_eeprom i) ≡ some (at image i)
  image-names-all whole i h = rw sub-zero (sym (above _ _ _ _ _ (omega arith) (below _ _ _ _ _ (omega arith) refl)))

  pub image-names-no-word : (i : ℕ) → last_stored (named e s call) (in_settings i) ≡ none
  image-names-no-word i = refl
