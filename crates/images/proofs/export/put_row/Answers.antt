-- The part of the EEPROM that is the row's, as a line.
use Rattle.std.proofs.Common.{◌≡◌, ℕ, ◌-◌, ◌*◌, min, List, length, arith, length-drop, length-take}
use Rattle.octets.specs.Place.{place_at, part_of}
use Rattle.images.proofs.export.put_row.Goals as goal

-- how much of it there is
length-row : (l : List ℕ) (k : ℕ) → length (part_of l (place_at (16 * k) 16)) ≡ min 16 (length l - 16 * k)
unfolding part_of
length-row l k = rw (length-take, length-drop)

pub put_record-requires : goal.put_record-requires
put_record-requires c =
    let a = c.args in
    let long = length-row a.eeprom.now a.k in
    rw c.part-row.ensures (omega (arith, long), omega (arith, long))

pub returns : goal.returns
unfolding part_of
returns c = rw (c.put_record.ensures, c.part-row.ensures)
