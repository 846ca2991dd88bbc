-- What a word says.
use Rattle.std.specs.Prelude.{ℕ, Option, Some, None, ◌+◌, ◌*◌, ◌/◌, ◌%◌, Bool, true, false, List, [], ◌∷◌, length}
use Rattle.octets.specs.Choice.{pick, if_lt, if_eq}
use Rattle.octets.specs.Over.{over}
use Rattle.text.specs.Digits.{digit_value}

-- the number that digits of a base spell behind a number
unfoldable pub spelled : ℕ → ℕ → List ℕ → Option ℕ
spelled base n [] = Some n
spelled base n (b ∷ bs) = if_lt (digit_value b) base (spelled base (n * base + digit_value b) bs) None

-- a number of 32 bits
abbrev pub small : Option ℕ → Option ℕ
small (Some n) = if_lt n 4294967296 (Some n) None
small None = None

unfoldable pub number_in : ℕ → List ℕ → Option ℕ
number_in base word = small (spelled base 0 word)

-- at least one decimal digit
abbrev pub decimal_in : List ℕ → Option ℕ
decimal_in word = if_eq (length word) 0 None (number_in 10 word)

-- eight hexadecimal digits of either case
abbrev pub word_in : List ℕ → Option ℕ
word_in word = if_eq (length word) 8 (number_in 16 word) None

-- whether a byte is no digit
unfoldable pub not_digits : List ℕ → Bool
not_digits [] = false
not_digits (b ∷ bs) = if_eq (digit_value b) 16 true (not_digits bs)

-- a byte of each two digits
unfoldable pub pairs_in : List ℕ → List ℕ
pairs_in [] = []
pairs_in (a ∷ []) = []
pairs_in (a ∷ b ∷ l) = (digit_value a * 16 + digit_value b) ∷ pairs_in l

-- the answer and the output: digits alone, an even number of them, and room for their bytes
abbrev pub pairs_into : List ℕ → List ℕ → Option ℕ × List ℕ
pairs_into word out =
    pick (not_digits word) (None, out)
    (if_eq (length word % 2) 1 (None, out)
    (if_lt (length out) (length word / 2) (None, out)
    (Some (length word / 2), over (pairs_in word) out)))
