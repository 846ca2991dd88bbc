-- Addresses, as document 01 has them under "Commands and responses".
use Rattle.std.specs.Prelude.{ℕ, ◌+◌, ◌-◌, ◌*◌, ◌%◌, ◌^◌, Bool, true, false, List, length, nat_le}
use Rattle.octets.specs.Refusals.{ends, address_length}
use Rattle.octets.specs.Outcome.{Outcome, accepted, refused}
use Rattle.octets.specs.Choice.{pick, if_lt, if_eq}
use Rattle.octets.specs.Over.{into}
use Rattle.octets.specs.Number.{big_at, big_bytes}
use Rattle.fields.specs.declared.addr.Addr.{Addr}

abbrev pub addr_of : ℕ → ℕ → Bool → Addr
addr_of val len extra = record { val = val; len = len; extra_bit = extra }

-- an address takes three bytes or two
abbrev pub width_if : Bool → ℕ
width_if true = 3
width_if false = 2

-- the top bit of k bytes
abbrev pub top_bit : ℕ → ℕ
top_bit k = 2 ^ (8 * k - 1)

-- "Address of 2 bytes: extra bit 0x8000, value masked by 0x0FFF. Of 3: extra bit 0x80 in the first byte, prefix masked
-- by 0x0F": the top bit is set apart, and the three bits below it are dropped
unfoldable pub addr_at : ℕ → List ℕ → ℕ → Addr
addr_at k bytes place = let n = big_at k bytes place in addr_of (n % 2 ^ (8 * k - 4)) k (nat_le (top_bit k) n)

abbrev pub addr_from : ℕ → List ℕ → Outcome Addr
addr_from k bytes = if_lt (length bytes) k (refused ends) (accepted (addr_at k bytes 0))

-- of a length that the caller names; another than 2 and 3 is refused as when writing
abbrev pub addr_from_any : ℕ → List ℕ → Outcome Addr
addr_from_any k bytes = if_eq k 2 (addr_from 2 bytes) (if_eq k 3 (addr_from 3 bytes) (refused address_length))

abbrev pub bit : Bool → ℕ
bit true = 1
bit false = 0

-- "Writing masks by 0x7FFF and 0x7FFFFF and sets or clears the top bit."
unfoldable pub addr_bytes : Addr → List ℕ
addr_bytes a = big_bytes a.len (a.val % top_bit a.len + bit a.extra_bit * top_bit a.len)

-- "address to be written, in a record of length other than 2 or 3"
abbrev pub wrong_length : ℕ → Bool
wrong_length k = if_eq k 2 false (if_eq k 3 false true)

abbrev pub addr_into : Addr → List ℕ → Outcome ℕ × List ℕ
addr_into a out = pick (wrong_length a.len) (refused address_length, out) (into (addr_bytes a) out)
