-- The part and the fill, one behind the other.
use Rattle.device.proofs.Payload.{found-le, memory-length, memory-put}
use native.Mathlib.Omega.{arith}
use Prim.Native.Nat.{◌≤◌}
use lib.ListN.{length, length-take, length-drop}
use Rattle.device.proofs.execute.put_memory.Goals as goal

pub slice_bounds-fill-count : goal.slice_bounds-fill-count
slice_bounds-fill-count c = omega (arith, found-le c.args.eeprom.now c.args.base c.taken-len.result c.part-part.ensures, c.taken-len.ensures.1)

pub slice_bounds-fill-start : goal.slice_bounds-fill-start
slice_bounds-fill-start c = omega (arith, found-le c.args.eeprom.now c.args.base c.taken-len.result c.part-part.ensures, c.taken-len.ensures.1)

pub slice_bounds-fill-end : goal.slice_bounds-fill-end
slice_bounds-fill-end c = omega (arith, found-le c.args.eeprom.now c.args.base c.taken-len.result c.part-part.ensures, c.taken-len.ensures.1)

pub returns : goal.returns
returns c =
    let taken = c.taken-len.ensures in
    let a = c.args in
    let fill = c.fill.ensures.after (λ y e. e) in
    let short = found-le a.eeprom.now a.base c.taken-len.result c.part-part.ensures in
    let room : a.size ≤ length a.data.now = omega (arith, c.requires) in (
      memory-length a.eeprom.now a.data.now a.base a.size taken.0 taken.1 room c.part-part.ensures,
      memory-put a.eeprom.now a.data.now a.base a.size taken.0 taken.1 room c.part-part.ensures _ c.put.ensures fill (simp (length-take, length-drop) (omega arith)) (omega arith),
    )
