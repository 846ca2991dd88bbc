-- A binary32 pattern: its fields, what a finite one is worth, and the pattern of a number.
use Rattle.std.specs.Prelude.{ℕ, zero, suc, ◌+◌, ◌-◌, ◌*◌, ◌/◌, ◌%◌, ◌^◌, Bool, cond, nat_le}
use Rattle.std.specs.Float.Ieee.{size}
use Rattle.std.specs.Float.Ieee.Nearest.{closest}

abbrev pub negative : ℕ → Bool
negative bits = nat_le (2 ^ 31) bits

abbrev pub exponent : ℕ → ℕ
exponent bits = bits / 2 ^ 23 % 2 ^ 8

abbrev pub fraction : ℕ → ℕ
fraction bits = bits % 2 ^ 23

-- the size of a finite pattern with the exponent x and the fraction t, in units of 2 ^ -149
unfoldable pub magnitude : ℕ → ℕ → ℕ
magnitude zero t = t
magnitude (suc x) t = (2 ^ 23 + t) * 2 ^ x

-- n rounded to its p leading binary digits: to the nearest, and at a tie to the even one
unfoldable pub round_to : ℕ → ℕ → ℕ
unfolding size
round_to p n = closest n (2 ^ (size n - p)) * 2 ^ (size n - p)

-- the pattern of ±n / 2 ^ d, for an n of at most 24 digits with zeros after them: the sign, then the digits with the
-- leading one added to the exponent
unfoldable pub pattern_of : Bool → ℕ → ℕ → ℕ
unfolding size
pattern_of s zero d = cond s (2 ^ 31) 0
pattern_of s (suc n) d = cond s (2 ^ 31) 0 + (size (suc n) + 125 - d) * 2 ^ 23 + suc n * 2 ^ 24 / 2 ^ size (suc n)
