-- Reading out of a view. "A view read that falls outside answers "none", as the Rust does; FloatView's `get` panics
-- there, so 7."
use Rattle.std.specs.Prelude.{ℕ, ◌+◌, ◌-◌, ◌*◌, List, Option, Some, None}
use Rattle.std.specs.Option.{option_map}
use Rattle.octets.specs.Refusals.{outside}
use Rattle.octets.specs.Outcome.{Outcome, accepted, refused}
use Rattle.octets.specs.Choice.{if_lt}
use Rattle.octets.specs.Number.{at, big_at, little_at}
use Rattle.octets.specs.Place.{place_at}
use Rattle.octets.specs.declared.Place.{Place}
use Rattle.views.specs.View.{View, view_of_memory, view_of_floats, if_outside}
use Rattle.views.specs.declared.memory.MemoryView.{MemoryView}
use Rattle.views.specs.declared.floats.FloatView.{FloatView}

-- "Memory view part: none if addr < base, or addr + len > base + view length; else that part", as a place in the view
abbrev pub view_part : ℕ → ℕ → ℕ → ℕ → Option Place
view_part base length addr len = if_lt addr base None (if_lt (base + length) (addr + len) None (Some (place_at (addr - base) len)))

-- a view whose place is outside its bytes has no part
abbrev pub part_in : View → List ℕ → ℕ → ℕ → Option Place
part_in v bytes addr len = if_outside v bytes None (view_part v.base v.len addr len)

-- "that part of the caller's bytes"
unfoldable pub part_at : MemoryView → List ℕ → ℕ → ℕ → Option Place
part_at v bytes addr len = option_map (λ (p : Place). place_at (v.data.start + p.start) p.len) (part_in (view_of_memory v) bytes addr len)

unfoldable pub byte_at : MemoryView → List ℕ → ℕ → Option ℕ
byte_at v bytes addr = option_map (λ (p : Place). at bytes p.start) (part_at v bytes addr 1)

unfoldable pub word_at : MemoryView → List ℕ → ℕ → Option ℕ
word_at v bytes addr = option_map (λ (p : Place). big_at 2 bytes p.start) (part_at v bytes addr 2)

abbrev pub or_outside : Option ℕ → Outcome ℕ
or_outside (Some n) = accepted n
or_outside None = refused outside

-- the pattern of the float at an address: its four bytes, the least significant first
unfoldable pub bits_at : FloatView → List ℕ → ℕ → Outcome ℕ
bits_at v bytes addr =
    or_outside (option_map (λ (p : Place). little_at 4 bytes (v.start + p.start * 4)) (part_in (view_of_floats v) bytes addr 1))
