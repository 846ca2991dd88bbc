-- "Bytes, Vec and BytesMut: a place and length in a lent packet"
use Rattle.std.specs.Prelude.{ℕ, ◌+◌, ◌*◌, Bool, List, ltb, take, drop}
use Rattle.octets.specs.declared.Place.{Place}

abbrev pub place_at : ℕ → ℕ → Place
place_at start len = record { start = start; len = len }

-- so many floats, of four bytes each
abbrev pub floats_at : ℕ → ℕ → Place
floats_at start count = place_at start (count * 4)

-- the bytes at a place
unfoldable pub part_of : List ℕ → Place → List ℕ
part_of bytes place = take place.len (drop place.start bytes)

-- whether it runs past so many bytes
unfoldable pub is_outside : Place → ℕ → Bool
is_outside place have = ltb have (place.start + place.len)
