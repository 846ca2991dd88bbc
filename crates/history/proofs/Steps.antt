-- One call: it leaves the memories with exactly the writes stored that an accepted call names, all of which lie within.
use Prim.Native.Nat.{ℕ, ◌+◌, ◌%◌, ◌^◌, ◌≤◌}
use mathlib.Core.Path.{◌≡◌, refl, sym, ap, ◌∙◌}
use mathlib.Core.List.{List, [], ◌∷◌}
use native.Mathlib.Omega.{arith}
use lib.ListN.{length}
use Rattle.octets.specs.Outcome.{Outcome, accepted, refused, on_accepted}
use Rattle.octets.specs.Number.{big_bytes}
use Rattle.octets.specs.Over.{over_at}
use Rattle.octets.proofs.Choosing.{either_lt, either-eq}
use Rattle.octets.proofs.Overlay.{over-whole, length-over-at, put-inside}
use Rattle.octets.proofs.InBytes.{length-big}
use Rattle.facts.specs.Eeprom.{at_timestamp, at_timestamp2x4}
use Rattle.commands.specs.declared.Commands.{Commands}
use Rattle.processor.specs.Memory.{Memory, memory, Store, to_eeprom, put_at, store}
use Rattle.device.specs.Names.{names}
use Rattle.processor.specs.Puts.{AllWithin}
use Rattle.processor.specs.Calls.{write_bytes, set_timestamp}
use Rattle.images.specs.Store.{stored_image}
use Rattle.device.specs.Execute.{Left, received_into, executed_into, executed_record}
use Rattle.processor.specs.declared.Device.{Device}
use Rattle.device.proofs.Accepted.{Received, received-does, executed-into-does, executed-does}
use Rattle.device.proofs.Refusals.{Kept, received-kept, executed-into-kept, executed-kept}
use Rattle.history.specs.History.{on_both, frame_names, if_accepted}

-- what is left where an outcome takes these writes
abbrev pub Right : Memory → Outcome Unit → List Store → Memory → Type 0
Right m o ws after = (after ≡ store (if_accepted o ws) m) × AllWithin (length m.eeprom) (length m.settings) (if_accepted o ws)

-- ---- commands
module _ (d : Device) (m : Memory) (out : List ℕ) where
  -- refused calls keep all, so that the accepted ones are left
  by_answer : {A : Type 0} (left : Left A) (ws : List Store) → Kept m out left → ((a : A) → left.0 ≡ accepted a → Right m (accepted tt) ws left.1) → Right m (on_both left).0 ws (on_both left).1
  by_answer left ws kept does = go left.0 refl
    where
      go : (o : Outcome _) → left.0 ≡ o → Right m (on_accepted (λ a. tt) o) ws left.1
      go (accepted a) q = does a q
      go (refused k) q = ((kept k q).0, tt)

  pub executed-right : (c : Commands) (p : List ℕ) → let left = on_both (executed_record d c p m out) in Right m left.0 (names p c) left.1
  executed-right c p = by_answer _ _ (executed-kept m out d c p) (λ r q. let h = executed-does m out d c p q in (h.stores, h.inside))

  pub executed-into-right : (c : Commands) (p : List ℕ) → let left = on_both (executed_into d c p m out) in Right m left.0 (names p c) left.1
  executed-into-right c p = by_answer _ _ (executed-into-kept m out d c p) (λ n q. let h = executed-into-does m out d c p q in (h.stores, h.inside))

  frame_right : (frame : List ℕ) (after : Memory) → Received m out frame after → Right m (accepted tt) (frame_names frame) after
  frame_right frame after h = rw (h.receives, h.reads) (h.does-it.stores, h.does-it.inside)

  pub received-right : (frame : List ℕ) → let left = on_both (received_into d frame m out) in Right m left.0 (frame_names frame) left.1
  received-right frame = by_answer _ _ (received-kept m out d frame) (λ n q. frame_right frame _ (received-does m out d frame q))

-- ---- the calls on the EEPROM
module _ (m : Memory) where
  abbrev EepromRight : List Store → Outcome Unit × List ℕ → Type 0
  EepromRight ws left = Right m left.0 ws (memory left.1 m.settings)

  pub written-right : (a : ℕ) (b : List ℕ) → EepromRight (to_eeprom a b ∷ []) (write_bytes a b m.eeprom)
  written-right a b =
      either_lt (EepromRight (to_eeprom a b ∷ [])) _ _ _ _ (λ h. (refl, tt))
      (λ h. either_lt (EepromRight (to_eeprom a b ∷ [])) _ _ _ _ (λ g. (refl, tt)) (λ g. (ap (λ (l : List ℕ). memory l m.settings) (put-inside m.eeprom a b g), (g, tt))))

  -- both places, in the code's order
  pub stamped-right : (value : ℕ) → EepromRight (to_eeprom at_timestamp (big_bytes 4 value) ∷ to_eeprom at_timestamp2x4 (big_bytes 2 (value % 2 ^ 16)) ∷ []) (set_timestamp value m.eeprom)
  stamped-right value =
      either_lt P _ _ _ _ (λ h. (refl, tt)) (λ h. either_lt P _ _ _ _ (λ g. (refl, tt)) (λ g. either_lt P _ _ _ _ (λ k. (refl, tt)) (λ k. both g k)))
    where
      one : List ℕ
      one = big_bytes 4 value

      two : List ℕ
      two = big_bytes 2 (value % 2 ^ 16)

      P : Outcome Unit × List ℕ → Type 0
      P = EepromRight (to_eeprom at_timestamp one ∷ to_eeprom at_timestamp2x4 two ∷ [])

      both : at_timestamp + 4 ≤ length m.eeprom → at_timestamp2x4 + 2 ≤ length m.eeprom → P (accepted tt, over_at at_timestamp2x4 two (over_at at_timestamp one m.eeprom))
      both g k =
          let first : at_timestamp + length one ≤ length m.eeprom = rw length-big g in
          let kept = length-over-at m.eeprom at_timestamp one first in
          let second : at_timestamp2x4 + length two ≤ length m.eeprom = rw length-big k in
          (ap (λ (l : List ℕ). memory l m.settings) (put-inside (over_at at_timestamp one m.eeprom) at_timestamp2x4 two (rw kept second) ∙ ap (put_at at_timestamp2x4 two) (put-inside m.eeprom at_timestamp one first)), (first, (second, tt)))

  -- an image of the EEPROM's size covers all of it
  pub image-right : (image : List ℕ) → EepromRight (to_eeprom 0 image ∷ []) (stored_image image m.eeprom)
  unfolding over_at
  image-right image =
      either_lt P _ _ _ _ (λ h. (refl, tt)) (λ h. either-eq P _ _ _ _ whole (λ g. (refl, tt)))
    where
      P : Outcome Unit × List ℕ → Type 0
      P = EepromRight (to_eeprom 0 image ∷ [])

      whole : length image ≡ length m.eeprom → P (accepted tt, image)
      whole g =
          let inside : 0 + length image ≤ length m.eeprom = omega arith in
          (ap (λ (l : List ℕ). memory l m.settings) (sym (over-whole image m.eeprom g) ∙ put-inside m.eeprom 0 image inside), (inside, tt))
