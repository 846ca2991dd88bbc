-- For any two histories on memories of equal sizes, a save of the one given enough room is written, and replayed on the
-- other it is accepted and leaves what was saved; so on the same processor later.
use Prim.Native.Nat.{ℕ, ◌≤◌}
use mathlib.Core.Path.{◌≡◌, refl, sym, ◌∙◌}
use mathlib.Core.Bool.{false}
use mathlib.Core.List.{List, ◌∷◌, ◌++◌}
use native.Mathlib.Omega.{arith}
use lib.ListN.{length, take}
use Rattle.octets.specs.Outcome.{accepted}
use Rattle.octets.specs.Over.{over}
use Rattle.octets.proofs.Choosing.{above}
use Rattle.processor.specs.Memory.{Memory, oversized}
use Rattle.saves.specs.Save.{save_of, saved_into}
use Rattle.saves.specs.Writes.{Words}
use Rattle.saves.proofs.Saved.{length-save, in-front}
use Rattle.saves.proofs.Round.{restored}
use Rattle.history.specs.History.{Call, save, history}
use Rattle.history.specs.Restores.{Sized, SameSizes, room_for, Restored}
use Rattle.history.proofs.History.{lengths-kept}
use Rattle.history.proofs.Kept.{words-kept}

saved : (m : Memory) → Sized m → (out : List ℕ) → room_for m ≤ length out → saved_into m out ≡ (accepted (room_for m), over (save_of m) out)
saved m fits out enough =
    let sized : oversized m ≡ false = sym (above _ _ _ _ _ fits.0 (above _ _ _ _ _ fits.1 refl)) in
    rw (sized, ← length-save m) (sym (above _ _ _ _ _ (omega (arith, length-save m)) refl))

one-other : (m m' : Memory) → Sized m → Words m.settings → SameSizes m' m → (out : List ℕ) → room_for m ≤ length out → Restored m m' out
one-other m m' fits words same out enough =
    let wrote = saved m fits out enough in
    let front : take (room_for m) (over (save_of m) out) ≡ save_of m = rw (← length-save m) (in-front m out) in
    record { is_written = rw wrote; is_replayed = rw (wrote, front) (restored m fits.0 fits.1 words m' same.0 same.1) }

pub restores : (cs cs' : List Call) (m m' : Memory) → Sized m → Words m.settings → SameSizes m' m → (out : List ℕ) → room_for m ≤ length out
    → Restored (history cs m) (history cs' m') out
restores cs cs' m m' fits words same out enough =
    let one = lengths-kept cs m in
    let other = lengths-kept cs' m' in
    one-other (history cs m) (history cs' m') (rw (one.0, one.1) fits) (words-kept cs m words)
    (other.0 ∙ same.0 ∙ sym one.0, other.1 ∙ same.1 ∙ sym one.1) out (rw (one.0, one.1) enough)

-- the same processor, after this save and any calls behind it
pub restores-later : (cs later : List Call) (m : Memory) → Sized m → Words m.settings → (out : List ℕ) → room_for m ≤ length out
    → Restored (history cs m) (history (cs ++ (save out ∷ later)) m) out
restores-later cs later m fits words out = restores cs (cs ++ (save out ∷ later)) m m fits words (refl, refl) out
