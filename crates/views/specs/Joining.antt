-- Joining two views. "Joining checks 7 (a view's place outside its bytes), 15, 11, 6".
use Rattle.std.specs.Prelude.{ℕ, ◌+◌, ◌-◌, ◌/◌, List, ◌++◌, take}
use Rattle.octets.specs.Refusals.{outside, past_end, apart}
use Rattle.octets.specs.Outcome.{Outcome, refused, on_accepted}
use Rattle.octets.specs.Choice.{if_lt, if_eq}
use Rattle.octets.specs.Over.{into}
use Rattle.octets.specs.Place.{place_at, part_of}
use Rattle.views.specs.View.{View, view_of_memory, view_of_floats, if_outside}
use Rattle.views.specs.declared.memory.MemoryView.{MemoryView}
use Rattle.views.specs.declared.floats.FloatView.{FloatView}

-- "first joined view has base + length over 65,535", "joined views do not adjoin", "output shorter than the whole result"
abbrev pub adjoined : ℕ → ℕ → ℕ → List ℕ → List ℕ → Outcome ℕ × List ℕ
adjoined base length next bytes out =
    if_lt 65535 (base + length) (refused past_end, out)
    (if_eq next (base + length) (into bytes out) (refused apart, out))

-- Views of either kind: what is kept of both views' bytes, one behind the other, is the result.
abbrev pub join_into : (List ℕ → List ℕ) → View → List ℕ → View → List ℕ → List ℕ → Outcome ℕ × List ℕ
join_into kept v bytes w others out =
    if_outside v bytes (refused outside, out)
    (if_outside w others (refused outside, out)
    (adjoined v.base v.len w.base (kept (part_of bytes v.place ++ part_of others w.place)) out))

-- the answer is the view of the result, where that is so many bytes
abbrev pub viewed : {A : Type 0} → (ℕ → A) → Outcome ℕ × List ℕ → Outcome A × List ℕ
viewed f (answer, out) = (on_accepted f answer, out)

abbrev pub memory_from : ℕ → ℕ → MemoryView
memory_from base n = record { base = base; «data» = place_at 0 n }

abbrev pub floats_from : ℕ → ℕ → FloatView
floats_from base n = record { base = base; start = 0; count = n / 4 }

-- "a memory view keeps only the first 65,535 - base bytes"
unfoldable pub memory_join : MemoryView → List ℕ → MemoryView → List ℕ → List ℕ → Outcome MemoryView × List ℕ
memory_join v bytes w others out =
    viewed (memory_from v.base) (join_into (take (65535 - v.base)) (view_of_memory v) bytes (view_of_memory w) others out)

-- and a float view all
unfoldable pub floats_join : FloatView → List ℕ → FloatView → List ℕ → List ℕ → Outcome FloatView × List ℕ
floats_join v bytes w others out = viewed (floats_from v.base) (join_into (λ all. all) (view_of_floats v) bytes (view_of_floats w) others out)
