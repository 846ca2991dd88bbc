-- Views, as document 01 has them under "Commands and responses (commands.rs)".
use Rattle.std.specs.Prelude.{ℕ, ◌+◌, ◌-◌, ◌/◌, List, length}
use Rattle.octets.specs.Outcome.{Outcome}
use Rattle.octets.specs.Choice.{if_lt}
use Rattle.octets.specs.Number.{big_at}
use Rattle.octets.specs.Place.{place_at, floats_at}
use Rattle.octets.specs.Reading.{needing, rest}
use Rattle.octets.specs.declared.Place.{Place}
use Rattle.views.specs.declared.memory.MemoryView.{MemoryView}
use Rattle.views.specs.declared.floats.FloatView.{FloatView}

-- what the paper says of either kind: "base", "view length", and "a view's place" in "its bytes"
pub record View : Type 0 where
  pub base : ℕ
  pub len : ℕ
  pub place : Place

-- a memory view's length counts its bytes
abbrev pub view_of_memory : MemoryView → View
view_of_memory v = record { base = v.base; len = v.data.len; place = v.data }

-- and a float view's its floats, of four bytes each
abbrev pub view_of_floats : FloatView → View
view_of_floats v = record { base = v.base; len = v.count; place = floats_at v.start v.count }

-- x where "a view's place outside its bytes", else y
abbrev pub if_outside : {A : Type 0} → View → List ℕ → A → A → A
if_outside v bytes x y = if_lt (length bytes) (v.place.start + v.place.len) x y

-- the Rust's `Default`: nothing, at 0
abbrev pub no_bytes : MemoryView
no_bytes = record { base = 0; «data» = place_at 0 0 }

abbrev pub no_floats : FloatView
no_floats = record { base = 0; start = 0; count = 0 }

-- `from_packet`: the view that a packet holds behind its command byte, and "0x14 drops a short tail"
abbrev pub memory_in : List ℕ → Outcome MemoryView
memory_in p = needing 3 p (record { base = big_at 2 p 1; «data» = rest 3 p })

abbrev pub floats_in : List ℕ → Outcome FloatView
floats_in p = needing 3 p (record { base = big_at 2 p 1; start = 3; count = (length p - 3) / 4 })
