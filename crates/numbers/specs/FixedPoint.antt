-- 5.23 codes, as document 01 has them under "Numbers", over whole numbers and for every pattern and every code.
use Rattle.std.specs.Prelude.{ℕ, suc, ◌+◌, ◌-◌, ◌*◌, ◌/◌, ◌%◌, ◌^◌, min, Bool, true, false, ℤ, pos, negsuc, neg_ℤ}
use Rattle.octets.specs.Choice.{if_lt, if_eq}
use Rattle.numbers.specs.Pattern.{negative, exponent, fraction, magnitude, round_to, pattern_of}

-- two's complement: the low k bits of a whole number, and the number that k bits stand for
abbrev pub low_bits : ℕ → ℤ → ℕ
low_bits k (pos n) = n % 2 ^ k
low_bits k (negsuc n) = 2 ^ k - 1 - n % 2 ^ k

abbrev pub signed : ℕ → ℕ → ℤ
signed k word = if_lt word (2 ^ (k - 1)) (pos word) (negsuc (2 ^ k - suc word))

-- "xor 0x08000000": bit 27 of the word is flipped, so 2^27 is added where it is 0 and taken away where it is 1
abbrev pub flip27 : ℕ → ℕ
flip27 word = word + 2 ^ 27 - word / 2 ^ 27 % 2 * 2 ^ 28

-- ---- from_f32

-- "exact value times 2^23, plus 2^27, rounded once to binary64 (nearest, ties to even), cut toward zero":
-- n units of 2^-149, times 2^23, are n units of 2^-126, of which 2^27 is 2^153. It is the sum that is cut toward zero: of the float
-- that is a cut down (`cut_down` in Format.antt).
unfoldable pub cut_sum : Bool → ℕ → ℤ
cut_sum false n = pos (round_to 53 (2 ^ 153 + n) / 2 ^ 126)
cut_sum true n = if_lt (2 ^ 153) n (neg_ℤ (pos (round_to 53 (n - 2 ^ 153) / 2 ^ 126))) (pos (round_to 53 (2 ^ 153 - n) / 2 ^ 126))

-- "held to the i64 range"
abbrev pub held : ℤ → ℤ
held (pos n) = pos (min n (2 ^ 63 - 1))
held (negsuc n) = negsuc (min n (2 ^ 63 - 1))

abbrev pub range_end : Bool → ℤ
range_end false = pos (2 ^ 63 - 1)
range_end true = negsuc (2 ^ 63 - 1)

-- by sign, exponent and fraction: an infinity is held at its end of the range, "NaN 0"
unfoldable pub encoded : Bool → ℕ → ℕ → ℤ
encoded s x t = if_eq x 255 (if_eq t 0 (range_end s) (pos 0)) (held (cut_sum s (magnitude x t)))

-- "if the top four bits are all ones, clear them"
abbrev pub cleared : ℕ → ℕ
cleared word = if_lt word (15 * 2 ^ 28) word (word % 2 ^ 28)

-- "low 32 bits, xor 0x08000000", cleared
abbrev pub code_word : ℤ → ℕ
code_word z = cleared (flip27 (low_bits 32 z))

unfoldable pub code_of : ℕ → ℕ
code_of bits = code_word (encoded (negative bits) (exponent bits) (fraction bits))

-- ---- to_f32

-- "xor 0x08000000, take away 2^27 wrapping, and the difference is read as a signed 32-bit number"
unfoldable pub around_zero : ℕ → ℤ
around_zero code = signed 32 ((flip27 code + (2 ^ 32 - 2 ^ 27)) % 2 ^ 32)

-- "rounded once to f32, then divided by 2^23"
abbrev pub bits_of_steps : ℤ → ℕ
bits_of_steps (pos n) = pattern_of false (round_to 24 n) 23
bits_of_steps (negsuc n) = pattern_of true (round_to 24 (suc n)) 23

unfoldable pub bits_of_code : ℕ → ℕ
bits_of_code code = bits_of_steps (around_zero code)
