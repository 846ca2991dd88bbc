-- What comes back of an address and of a value that are written and read again, and which address is written again as it was
-- read.
use Rattle.std.specs.Prelude.{◌≡◌, ℕ, ◌+◌, ◌-◌, ◌*◌, ◌/◌, ◌%◌, ◌^◌, List, length}
use Rattle.octets.specs.Number.{big_at}
use Rattle.octets.specs.Place.{place_at}
use Rattle.fields.specs.Addr.{addr_of}
use Rattle.fields.specs.Value.{value_at}
use Rattle.fields.specs.declared.addr.Addr.{Addr}
use Rattle.fields.specs.declared.value.Value.{Value}
use Rattle.fields.specs.declared.value.Value.TheVariants.{Float, FixedPoint, Int, Int32, Unknown}

-- "value masked by 0x0FFF", "prefix masked by 0x0F": the three bits below the top bit are written and not read
abbrev pub cut : Addr → Addr
cut a = addr_of (a.val % 2 ^ (8 * a.len - 4)) a.len a.extra_bit

-- a value whose bytes stand n bytes further on
abbrev pub moved : ℕ → Value → Value
moved n (Float x) = Float x
moved n (FixedPoint x) = FixedPoint x
moved n (Int m) = Int m
moved n (Int32 m) = Int32 m
moved n (Unknown place) = Unknown (place_at (n + place.start) place.len)

-- a value comes back as what its bytes, n bytes into the packet, read as: Int or Unknown
abbrev pub reread : List ℕ → ℕ → Value
reread bytes n = moved n (value_at bytes (place_at 0 (length bytes)))

-- the three bits below the top bit of an address are clear
abbrev pub Clear : ℕ → List ℕ → ℕ → Type 0
Clear k bytes place = big_at k bytes place / 2 ^ (8 * k - 4) % 8 ≡ 0
