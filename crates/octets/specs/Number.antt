-- Numbers in bytes. "numbers are big-endian unless said"
use Rattle.std.specs.Prelude.{ℕ, zero, suc, ◌+◌, ◌*◌, ◌/◌, ◌%◌, ◌^◌, ◌<◌, List, [], ◌∷◌, ◌++◌, get_or}

-- the byte at a place, 0 where there is none
abbrev pub at : List ℕ → ℕ → ℕ
at bytes place = get_or bytes place 0

-- a list of bytes
abbrev pub Octets : List ℕ → Type 0
Octets l = (i : ℕ) → at l i < 256

-- the number in k bytes at a place, the most significant first
unfoldable pub big_at : ℕ → List ℕ → ℕ → ℕ
big_at zero bytes place = 0
big_at (suc k) bytes place = big_at k bytes place * 256 + at bytes (place + k)

-- the same, the least significant first
unfoldable pub little_at : ℕ → List ℕ → ℕ → ℕ
little_at zero bytes place = 0
little_at (suc k) bytes place = at bytes place + little_at k bytes (place + 1) * 256

-- the k bytes of a number
unfoldable pub big_bytes : ℕ → ℕ → List ℕ
big_bytes zero n = []
big_bytes (suc k) n = n / 256 ^ k % 256 ∷ big_bytes k n

unfoldable pub little_bytes : ℕ → ℕ → List ℕ
little_bytes zero n = []
little_bytes (suc k) n = little_bytes k n ++ (n / 256 ^ k % 256 ∷ [])
