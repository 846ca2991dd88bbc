-- A law of proofs/Steps.antt for each shift; 1 << d is a power of two.
use Rattle.std.proofs.Common.{ℕ, ◌+◌, ◌-◌, ◌^◌, ◌<◌, ◌≤◌, arith, pow_pos, pow_mono, rules}
use Rattle.numbers.proofs.Steps.{one_shl, up-low, up-mid, up-high}
use Rattle.numbers.proofs.fixed_point.steps_up.Goals as goal

pub returns-then-x-lt103 : goal.returns-then-x-lt103
returns-then-x-lt103 c = up-low _ _ (search rules) (search rules) (search rules)

pub overflow_sub-result : goal.overflow_sub-result
overflow_sub-result c = let x = c.args.x in rw (one_shl (127 - x) (omega arith)) (pow_pos (127 - x))

pub overflow_add-result : goal.overflow_add-result
overflow_add-result c =
    let x = c.args.x in
    rw (one_shl (127 - x) (omega arith)) (record { fits = few c.args.t (search rules) (pow_mono {i = 127 - x} {j = 24} (omega arith)) })
  where
    few : (t : ℕ) {p : ℕ} → t < 2 ^ 23 → p ≤ 2 ^ 24 → 8388608 + t + (p - 1) < 2 ^ 64
    few t h k = omega arith

pub returns-then-x-lt127 : goal.returns-then-x-lt127
returns-then-x-lt127 c = up-mid _ _ (search rules) (search rules) (search rules)

pub returns : goal.returns
returns c = up-high _ _ (search rules) (search rules) (search rules)
