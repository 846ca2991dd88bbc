-- Gains, as document 01 has them under "Numbers", over whole numbers.
use Rattle.std.specs.Prelude.{ℕ, ◌/◌, ◌^◌, min, true}
use Rattle.octets.specs.Choice.{if_eq}
use Rattle.numbers.specs.Pattern.{exponent, fraction, magnitude, pattern_of}

-- "byte k becomes -0.5 times k, so 0 becomes -0.0"
abbrev pub bits_of_byte : ℕ → ℕ
bits_of_byte k = pattern_of true k 1

-- "a float becomes twice its absolute value cut toward zero, 255 above, NaN 0": twice n units of 2^-149 are n of 2^-148
unfoldable pub gain_byte : ℕ → ℕ
gain_byte bits =
    if_eq (exponent bits) 255
    (if_eq (fraction bits) 0 255 0)
    (min (magnitude (exponent bits) (fraction bits) / 2 ^ 148) 255)

-- `Gain::MIN` and `Gain::MAX`, -127 and 0, as patterns
abbrev pub least_gain : ℕ
least_gain = 0xC2FE0000

abbrev pub most_gain : ℕ
most_gain = 0
