-- What the code's tests tell of a view's place and of an address.
use Rattle.std.specs.Prelude.{Some, None}
use Rattle.std.proofs.Common.{◌≡◌, ℕ, ◌+◌, ◌-◌, ◌≤◌, Bool, false, sym, arith}
use Rattle.std.proofs.lemmas.Option.{none-some, same_Some}
use Rattle.octets.specs.Place.{place_at, is_outside}
use Rattle.octets.specs.declared.Place.{Place}
use Rattle.octets.proofs.Choosing.{passed}
use Rattle.octets.proofs.Parts.{found_inside}
use Rattle.views.specs.Reading.{view_part}

-- what is found is the view's
module _ (base count addr len : ℕ) {p : Place} where
  pub found_part : view_part base count addr len ≡ Some p → (base ≤ addr) × (addr + len ≤ base + count) × (place_at (addr - base) len ≡ p)
  found_part e =
      let low = passed addr base None _ (Some p) (none-some p) e in
      let high = passed (base + count) (addr + len) None _ (Some p) (none-some p) low.1 in
      (low.0, high.0, same_Some _ _ high.1)

  -- the same of the code's answer, from a view whose place it found inside
  pub found-held : (place : Place) (have : ℕ) {r : Bool} → r ≡ is_outside place have → r ≡ false → Some p ≡ view_part base count addr len
      → (place.start + place.len ≤ have) × (p.start + p.len ≤ count)
  found-held place have e h found = let part = found_part (sym found) in (found_inside place have e h, rw (← part.2) (omega arith))
