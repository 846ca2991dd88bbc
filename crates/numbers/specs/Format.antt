-- The 5.23 numeric format of the public SigmaDSP data sheets: a 28-bit two's complement number with 23 fraction bits,
-- from -16 up to 16 less one step of 2^-23.
use Rattle.std.specs.Prelude.{ℕ, suc, ◌+◌, ◌-◌, ◌/◌, ◌^◌, ◌<◌, ◌≤◌, Bool, true, false, ℤ, pos, negsuc, neg_ℤ, Float}
use Rattle.std.specs.Float.{binary32}
use Rattle.std.specs.Float.Ieee.{round}
use Rattle.octets.specs.Choice.{if_lt}
use Rattle.numbers.specs.FixedPoint.{signed}

-- what a code means, in steps of 2^-23
abbrev pub meaning : ℕ → ℤ
meaning code = signed 28 code

-- a number of steps as a float, rounded once
abbrev pub as_float : ℤ → Float
as_float (pos n) = round binary32 false n (2 ^ 23)
as_float (negsuc n) = round binary32 true (suc n) (2 ^ 23)

-- The float of n units of 2^-149, cut down to a step: n / 2^126 steps. `cut_sum` cuts toward zero, but what it cuts is the sum: from
-- -2^27 steps on that is not below zero, so that toward zero is down, and a float below that is a whole number of steps. "flooring
-- tiny negatives (-1e-30 codes 0)" is a slip: below zero, 2^-27 of a step and less is lost where the sum is rounded.
abbrev pub cut_down : Bool → ℕ → ℤ
cut_down false n = pos (n / 2 ^ 126)
cut_down true n = if_lt (2 ^ 99) n (neg_ℤ (pos ((n + (2 ^ 126 - 1)) / 2 ^ 126))) (pos 0)

-- a size that is not held at an end of the i64 range: below 2^40, or 2^40 itself below zero
abbrev pub Unheld : Bool → ℕ → Type 0
Unheld false n = n < 2 ^ 189
Unheld true n = n ≤ 2 ^ 189
