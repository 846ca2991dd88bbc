-- Outside, or reached where `view_part` says, whose answer tells that the place does not run over.
use Rattle.std.proofs.Common.{refl, ap, arith}
use Rattle.std.specs.Option.{option_map}
use Rattle.octets.proofs.Choosing.{below, above}
use Rattle.octets.proofs.Parts.{found-outside, found_inside}
use Rattle.views.specs.Reading.{part_at}
use Rattle.views.proofs.Found.{found-held}
use Rattle.views.proofs.memory.MemoryView.read_at.Goals as goal

pub returns-then-is_outside : goal.returns-then-is_outside
unfolding part_at
returns-then-is_outside c = ap (option_map _) (below _ _ _ _ _ (found-outside _ _ c.is_outside.ensures c.if-is_outside.true) refl)

pub overflow_add-result : goal.overflow_add-result
overflow_add-result c =
    record { fits = omega (arith, found-held _ _ _ _ _ _ c.is_outside.ensures c.if-is_outside.false c.in_ok-place.ensures) }

pub returns-in_err-place : goal.returns-in_err-place
unfolding part_at
returns-in_err-place c =
    let h = found_inside _ _ c.is_outside.ensures c.if-is_outside.false in
    rw c.from_residual.ensures (ap (option_map _) (above _ _ _ _ _ h c.in_err-place.ensures))

pub returns : goal.returns
unfolding part_at
returns c =
    let h = found_inside _ _ c.is_outside.ensures c.if-is_outside.false in
    ap (option_map _) (above _ _ _ _ _ h c.in_ok-place.ensures)
