-- What `read_at` finds is a part of the caller's bytes: the view's own bytes from the address on.
use Prim.Native.Nat.{ℕ, ◌+◌, ◌-◌, ◌≤◌}
use mathlib.Core.Path.{◌≡◌, refl}
use mathlib.Core.List.{List}
use Rattle.std.specs.Prelude.{Option, Some, None}
use Rattle.std.specs.Option.{option_map}
use Rattle.std.proofs.lemmas.Option.{none-some, same_Some}
use native.Mathlib.Omega.{arith}
use lib.ListN.{length}
use Rattle.octets.specs.Place.{place_at, part_of}
use Rattle.octets.specs.declared.Place.{Place}
use Rattle.views.specs.Reading.{part_at}
use Rattle.views.specs.declared.memory.MemoryView.{MemoryView}
use Rattle.octets.proofs.Choosing.{passed}
use Rattle.octets.proofs.Parts.{part-part}
use Rattle.views.proofs.Found.{found_part}

-- a value that was made is made of one
was-mapped : (f : Place → Place) (o : Option Place) {p : Place} → option_map f o ≡ Some p → (q : Place) × (o ≡ Some q) × (f q ≡ p)
was-mapped f (Some q) e = (q, refl, same_Some _ _ e)
was-mapped f None e = absurd (none-some _ e)

module _ (v : MemoryView) (bytes : List ℕ) (addr len : ℕ) (p : Place) (found : part_at v bytes addr len ≡ Some p) where
  read_at : (v.data.start + v.data.len ≤ length bytes) × (v.base ≤ addr) × (addr + len ≤ v.base + v.data.len) × (place_at (v.data.start + (addr - v.base)) len ≡ p)
  unfolding part_at
  read_at =
      let told = was-mapped _ _ found in
      let held = passed _ _ None _ (Some told.0) (none-some told.0) told.1 in
      let part = found_part _ _ _ _ held.1 in
      (held.0, part.0, part.1, rw (← part.2) at told.2)

  pub read-inside : p.start + p.len ≤ length bytes
  read-inside = let r = read_at in rw (← r.3) (omega arith)

  pub read-part : part_of bytes p ≡ part_of (part_of bytes v.data) (place_at (addr - v.base) len)
  read-part = let r = read_at in rw (← r.3) (part-part bytes v.data.start v.data.len (addr - v.base) len r.0 (omega arith))
