-- Values, as document 01 has them under "Commands and responses".
use Rattle.std.specs.Prelude.{ℕ, ◌+◌, Bool, false, List, length, to_bits}
use Rattle.std.specs.Float.{binary32}
use Rattle.octets.specs.Refusals.{outside}
use Rattle.octets.specs.Outcome.{Outcome, accepted, refused}
use Rattle.octets.specs.Choice.{pick, if_eq}
use Rattle.octets.specs.Over.{into}
use Rattle.octets.specs.Number.{little_at, little_bytes, big_bytes}
use Rattle.octets.specs.Place.{part_of, is_outside}
use Rattle.octets.specs.declared.Place.{Place}
use Rattle.fields.specs.declared.value.Value.{Value}
use Rattle.fields.specs.declared.value.Value.TheVariants.{Float, FixedPoint, Int, Int32, Unknown}

-- "A value of exactly 4 bytes whose last two are 0 and first two not both 0 is Int, little-endian; every other is Unknown."
unfoldable pub value_at : List ℕ → Place → Value
value_at packet place =
    if_eq place.len 4
    (if_eq (little_at 2 packet (place.start + 2)) 0
    (if_eq (little_at 2 packet place.start) 0 (Unknown place) (Int (little_at 2 packet place.start)))
    (Unknown place))
    (Unknown place)

abbrev pub value_from : List ℕ → Place → Outcome Value
value_from packet place = pick (is_outside place (length packet)) (refused outside) (accepted (value_at packet place))

-- "Written: Float little-endian; FixedPoint and Int32 big-endian; Int little-endian then two zeros."
abbrev pub value_bytes : Value → List ℕ → List ℕ
value_bytes (Float x) packet = little_bytes 4 (to_bits binary32 x)
value_bytes (FixedPoint x) packet = big_bytes 4 x.0
value_bytes (Int n) packet = little_bytes 4 n
value_bytes (Int32 n) packet = big_bytes 4 n
value_bytes (Unknown place) packet = part_of packet place

-- a place outside its payload
abbrev pub value_outside : Value → ℕ → Bool
value_outside (Float x) have = false
value_outside (FixedPoint x) have = false
value_outside (Int n) have = false
value_outside (Int32 n) have = false
value_outside (Unknown place) have = is_outside place have

abbrev pub value_into : Value → List ℕ → List ℕ → Outcome ℕ × List ℕ
value_into v packet out = pick (value_outside v (length packet)) (refused outside, out) (into (value_bytes v packet) out)
