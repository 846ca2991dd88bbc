-- A joined view reads as the two that it was made of: below the second's base as the first, from there on as the second.
-- A memory view ends before 65,535, and a float view has all floats of both.
use Prim.Native.Nat.{ℕ, zero, suc, ◌+◌, ◌-◌, ◌*◌, min}
use mathlib.Core.Path.{◌≡◌, refl, sym, ap, ◌∙◌}
use mathlib.Core.List.{List}
use Rattle.std.specs.Prelude.{Option, Some, None}
use Rattle.std.specs.Option.{option_map}
use native.Mathlib.Nat.{add-zero, add_assoc, mul-one}
use native.Mathlib.Omega.{arith}
use lib.Dec.{lit<}
use lib.ListN.{length, take, length-append, length-take}
use lib.Seq.{get_or-take}
use Rattle.octets.specs.Choice.{if_lt}
use Rattle.octets.specs.Number.{at, little_at}
use Rattle.octets.specs.Outcome.{accepted, refused}
use Rattle.octets.specs.Place.{place_at}
use Rattle.octets.specs.Refusals.{outside}
use Rattle.octets.specs.declared.Place.{Place}
use Rattle.octets.proofs.Choosing.{if-of}
use Rattle.octets.proofs.Parts.{length_part}
use Rattle.views.specs.View.{view_of_memory, view_of_floats}
use Rattle.views.specs.Reading.{part_at, byte_at, bits_at, or_outside}
use Rattle.views.specs.Joining.{memory_from, memory_join, floats_from, floats_join}
use Rattle.views.specs.declared.memory.MemoryView.{MemoryView}
use Rattle.views.specs.declared.floats.FloatView.{FloatView}
use Rattle.views.proofs.Joined.{Joined, both_bytes, was-joined, left-long, left_at}
use Rattle.views.proofs.Elements.{Reads, reads-joined}

one_byte : Reads 1 at
one_byte l m p q e = rw (add-zero, add-zero) at (e 0 (lit< tt))

little-bytes : (k : ℕ) → Reads k (little_at k)
unfolding little_at
little-bytes zero l m p q e = refl
little-bytes (suc k) l m p q e =
    let a : at l p ≡ at m q = rw (add-zero, add-zero) at (e 0 (omega arith)) in
    let b : little_at k l (p + 1) ≡ little_at k m (q + 1) = little-bytes k l m (p + 1) (q + 1) (λ i h. rw (add_assoc p 1 i, add_assoc q 1 i) (e (1 + i) (omega arith))) in
    rw (a, b)

-- the byte at a part's place is an element of one byte
map-twice : (bytes : List ℕ) (s : ℕ) (x : Option Place) → option_map (λ (p : Place). at bytes p.start) (option_map (λ (p : Place). place_at (s + p.start) p.len) x) ≡ option_map (λ (p : Place). at bytes (s + p.start * 1)) x
map-twice bytes s None = refl
map-twice bytes s (Some p) = rw mul-one

module _ (v w j : MemoryView) (bytes others out left : List ℕ) (accepts : memory_join v bytes w others out ≡ (accepted j, left)) where
  abbrev whole : List ℕ
  whole = take (65535 - v.base) (both_bytes (view_of_memory v) bytes (view_of_memory w) others)

  was : Joined (memory_from v.base) (view_of_memory v) bytes (view_of_memory w) others out whole j left
  unfolding memory_join
  was = was-joined (take (65535 - v.base)) (view_of_memory v) (view_of_memory w) bytes others out accepts

  size : length whole ≡ min (65535 - v.base) (v.data.len + w.data.len)
  size = rw (length-take, length-append, length_part bytes v.data was.first, length_part others w.data was.second)

  pub memory-end : j.base + j.data.len ≡ min 65535 (w.base + w.data.len)
  memory-end = rw (← was.view) (omega (arith, size, was.low, was.meet))

  pub memory-reads : (addr : ℕ) → byte_at j left addr ≡ if_lt addr (j.base + j.data.len) (if_lt addr w.base (byte_at v bytes addr) (byte_at w others addr)) None
  unfolding byte_at part_at
  memory-reads addr =
      rw (← was.view, map-twice left 0, map-twice bytes v.data.start, map-twice others w.data.start)
      (reads-joined 1 (view_of_memory v) (view_of_memory w) (view_of_memory (memory_from v.base (length whole))) bytes others left
      was.first was.second (omega (arith, left-long was)) (sym (mul-one _)) (sym (mul-one _))
      refl was.meet (omega (arith, size, was.low)) (omega (arith, size))
      (λ p h. left_at was p (omega arith) ∙ get_or-take (65535 - v.base) (both_bytes (view_of_memory v) bytes (view_of_memory w) others) p 0 (omega (arith, size)))
      at one_byte addr)

module _ (v w j : FloatView) (bytes others out left : List ℕ) (accepts : floats_join v bytes w others out ≡ (accepted j, left)) where
  abbrev whole-floats : List ℕ
  whole-floats = both_bytes (view_of_floats v) bytes (view_of_floats w) others

  was-floats : Joined (floats_from v.base) (view_of_floats v) bytes (view_of_floats w) others out whole-floats j left
  unfolding floats_join
  was-floats = was-joined (λ all. all) (view_of_floats v) (view_of_floats w) bytes others out accepts

  size-floats : length whole-floats ≡ v.count * 4 + w.count * 4
  size-floats = rw (length-append, length_part bytes (view_of_floats v).place was-floats.first, length_part others (view_of_floats w).place was-floats.second)

  pub floats-count : j.count ≡ v.count + w.count
  floats-count = rw (← was-floats.view) (omega (arith, size-floats))

  pub floats-reads : (addr : ℕ) → bits_at j left addr ≡ if_lt addr (j.base + j.count) (if_lt addr w.base (bits_at v bytes addr) (bits_at w others addr)) (refused outside)
  unfolding bits_at
  floats-reads addr =
      rw (← was-floats.view)
      (ap or_outside
      (reads-joined 4 (view_of_floats v) (view_of_floats w) (view_of_floats (floats_from v.base (length whole-floats))) bytes others left
      was-floats.first was-floats.second (omega (arith, left-long was-floats)) refl refl
      refl was-floats.meet (omega (arith, size-floats)) (omega (arith, size-floats))
      (λ p h. left_at was-floats p (omega (arith, size-floats)))
      (little_at 4) (little-bytes 4) addr)
      ∙ rw (if-of or_outside, if-of or_outside))
