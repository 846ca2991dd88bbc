-- A law of proofs/Steps.antt for each branch.
use Rattle.std.proofs.Common.{ℕ, ◌+◌, ◌-◌, ◌*◌, ◌/◌, ◌%◌, ◌^◌, ◌<◌, ◌≤◌, ◌∙◌, arith, rules}
use lib.Pow.{shr_mono}
use Rattle.numbers.proofs.Magnitude.{mag-le, digits_lt}
use Rattle.numbers.proofs.Steps.{at-nan, at-tiny, at_least, at-minus, at_most, at-plus}
use Rattle.numbers.proofs.fixed_point.encoded_low.Goals as goal

pub returns-then-p-gt2139095040 : goal.returns-then-p-gt2139095040
returns-then-p-gt2139095040 c = at-nan _ _ (search rules) (search rules)

pub returns-then-p-le645922816 : goal.returns-then-p-le645922816
returns-then-p-le645922816 c = at-tiny _ _ c.if-below.true (search rules)

pub returns-then-p-gt1400897536 : goal.returns-then-p-gt1400897536
returns-then-p-gt1400897536 c = at_least _ _ c.if-below.true (search rules) (search rules)

pub returns-then-below : goal.returns-then-below
returns-then-below c =
    at-minus _ _ c.wrapping_sub_u32.result c.if-below.true (search rules) (search rules) (search rules)
    (rw (← c.steps_up.ensures, ← c.low_word.ensures) c.wrapping_sub_u32.ensures.value)

pub returns-then-p-ge1400897536 : goal.returns-then-p-ge1400897536
returns-then-p-ge1400897536 c = at_most _ _ c.if-below.false (search rules) (search rules)

pub overflow_add-steps_down : goal.overflow_add-steps_down
overflow_add-steps_down c =
    let p = c.args.p in
    rw c.steps_down.ensures (record { fits = few (shr_mono 126 (mag-le (p % 2 ^ 23) (p / 2 ^ 23) (digits_lt p) (search rules))) })
  where
    few : {u : ℕ} → u ≤ (2 ^ 24 - 1) * 2 ^ 39 → u + 2 ^ 27 < 2 ^ 64
    few h = omega arith

pub returns : goal.returns
returns c = c.low_word-2.ensures ∙ rw c.steps_down.ensures (at-plus _ _ c.if-below.false (search rules))
