-- The values of a Read response: "chunks of four, the last perhaps shorter".
use Rattle.std.specs.Prelude.{ℕ, ◌+◌, ◌-◌, ◌*◌, ◌/◌, min, List, length}
use Rattle.octets.specs.Refusals.{outside}
use Rattle.octets.specs.Outcome.{Outcome, accepted, refused}
use Rattle.octets.specs.Choice.{pick, if_lt, if_eq}
use Rattle.octets.specs.Place.{place_at, is_outside}
use Rattle.octets.specs.declared.Place.{Place}
use Rattle.fields.specs.Value.{value_at}
use Rattle.fields.specs.declared.value.Value.{Value}
use Rattle.responses.specs.declared.Values.{Values}
use Rattle.responses.specs.declared.Values.TheVariants.{Chunks, One}

abbrev pub values_count : Values → ℕ
values_count (Chunks place) = (place.len + 3) / 4
values_count (One value) = 1

-- chunk number i of a place
abbrev pub chunk_at : Place → ℕ → Place
chunk_at place i = place_at (place.start + i * 4) (min 4 (place.len - i * 4))

-- value number i, which is outside where there are no more than i
abbrev pub nth_value : Values → List ℕ → ℕ → Outcome Value
nth_value (Chunks place) bytes i =
    pick (is_outside place (length bytes)) (refused outside)
    (if_lt (i * 4) place.len (accepted (value_at bytes (chunk_at place i))) (refused outside))
nth_value (One value) bytes i = if_eq i 0 (accepted value) (refused outside)
