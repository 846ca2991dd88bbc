-- The answer is settled in one step and what it leaves in another.
use Prim.Native.Nat.{ℕ, ◌-◌, ◌≤◌}
use mathlib.Core.Path.{◌≡◌, sym, ap, ◌∙◌}
use mathlib.Core.List.{List}
use native.Mathlib.Omega.{arith}
use lib.ListN.{length, take, drop, length-append}
use lib.Seq.{take_at}
use Rattle.octets.specs.Outcome.{Outcome}
use Rattle.octets.specs.Over.{over}
use Rattle.processor.specs.Memory.{Memory, Store}
use Rattle.device.specs.Execute.{Left, store_if}

pub settled : (ws : List Store) (m : Memory) (answer : Outcome ℕ × List ℕ) {w r : Outcome ℕ} {out : List ℕ} {n : Memory} → ◌≡◌ {A = Outcome ℕ × List ℕ} (w, out) answer → ◌≡◌ {A = Outcome ℕ × Memory} (r, n) (store_if ws m w)
    → ◌≡◌ {A = Left ℕ} (r, n, out) ((store_if ws m answer.0).0, (store_if ws m answer.0).1, answer.1)
settled ws m answer e s =
    let told = ap (λ (p : Outcome ℕ × List ℕ). p.0) e in
    let left = s ∙ ap (store_if ws m) told in
    λ i. ((left i).0, (left i).1, (e i).1)

-- what was written over a buffer is its first part
module _ (w z : List ℕ) {o : List ℕ} (wrote : o ≡ over w z) where
  pub over-le : length w ≤ length o
  unfolding over
  over-le = rw (wrote, length-append w (drop (length w) z)) (omega arith)

  pub over-front : (n : ℕ) → n ≡ length w → take n o ≡ w
  unfolding over
  over-front n e = rw wrote (take_at w (drop (length w) z) n (sym e))

  -- the same as a part of a slice
  pub over_first : (n : ℕ) → n ≡ length w → take (n - 0) (drop 0 o) ≡ w
  over_first n e = let same : n - 0 ≡ n = omega arith in rw same (over-front n e)
