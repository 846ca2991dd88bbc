-- Numbers and bytes as digits.
use Rattle.std.specs.Prelude.{ℕ, zero, suc, ◌+◌, ◌-◌, ◌/◌, ◌%◌, ◌^◌, List, [], ◌∷◌, ◌++◌}
use Rattle.octets.specs.Choice.{if_lt, if_eq}

-- A number's last digit, and those of its tenth before it, where that is not 0. No number has more digits than it counts.
unfoldable pub leading : ℕ → ℕ → List ℕ
leading zero n = []
leading (suc k) n = if_eq n 0 [] (leading k (n / 10) ++ ((48 + n % 10) ∷ []))

unfoldable pub decimal : ℕ → List ℕ
decimal n = leading n (n / 10) ++ ((48 + n % 10) ∷ [])

-- a hexadecimal digit, upper-case
abbrev pub hex_digit : ℕ → ℕ
hex_digit d = if_lt d 10 (48 + d) (55 + d)

-- the last k of a number
unfoldable pub hex_digits : ℕ → ℕ → List ℕ
hex_digits zero w = []
hex_digits (suc k) w = hex_digit (w / 16 ^ k % 16) ∷ hex_digits k w

-- each byte as two digits
unfoldable pub pairs_of : List ℕ → List ℕ
pairs_of [] = []
pairs_of (b ∷ bs) = hex_digits 2 b ++ pairs_of bs

-- the value of a digit, `0` to `9`, `A` to `F` or `a` to `f`; 16 for any other byte
unfoldable pub digit_value : ℕ → ℕ
digit_value b =
    if_lt b 48 16 (if_lt b 58 (b - 48)
    (if_lt b 65 16 (if_lt b 71 (b - 55)
    (if_lt b 97 16 (if_lt b 103 (b - 87) 16)))))
