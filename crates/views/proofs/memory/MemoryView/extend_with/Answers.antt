-- Outside, or what `join` answers of the first view's bytes and what is kept of the second's.
use Rattle.std.proofs.Common.{refl, ap, ◌∙◌}
use Rattle.std.proofs.lemmas.Result.{err_from_is_err_and}
use Rattle.octets.proofs.Choosing.{below, above}
use Rattle.octets.proofs.Parts.{found-outside, found_inside}
use Rattle.views.specs.Joining.{memory_join, viewed}
use Rattle.views.proofs.Cut.{adjoined-kept}
use Rattle.views.proofs.memory.MemoryView.extend_with.Goals as goal

pub returns-then-is_outside : goal.returns-then-is_outside
unfolding memory_join
returns-then-is_outside c = ap (viewed _) (below _ _ _ _ _ (found-outside _ _ c.is_outside.ensures c.if-is_outside.true) refl)

pub returns-then-is_outside-2 : goal.returns-then-is_outside-2
unfolding memory_join
returns-then-is_outside-2 c =
    let h = found_inside _ _ c.is_outside.ensures c.if-is_outside.false in
    let k = found-outside _ _ c.is_outside-2.ensures c.if-is_outside-2.true in
    ap (viewed _) (above _ _ _ _ _ h (below _ _ _ _ _ k refl))

pub returns-in_err-len : goal.returns-in_err-len
unfolding memory_join
returns-in_err-len c =
    let h = found_inside _ _ c.is_outside.ensures c.if-is_outside.false in
    let k = found_inside _ _ c.is_outside-2.ensures c.if-is_outside-2.false in
    let e = rw (c.part-first.ensures, c.part-second.ensures, c.kept-more.ensures) at c.in_err-len.ensures in
    let p = err_from_is_err_and c.from_residual.result c.from_residual.ensures.1 in
    rw (p.1, p.2) (ap (viewed _) (above _ _ _ _ _ h (above _ _ _ _ _ k (e ∙ adjoined-kept _ _ _ _ _ _ _ h))))

pub returns : goal.returns
unfolding memory_join
returns c =
    let h = found_inside _ _ c.is_outside.ensures c.if-is_outside.false in
    let k = found_inside _ _ c.is_outside-2.ensures c.if-is_outside-2.false in
    let e = rw (c.part-first.ensures, c.part-second.ensures, c.kept-more.ensures) at c.in_ok-len.ensures in
    ap (viewed _) (above _ _ _ _ _ h (above _ _ _ _ _ k (e ∙ adjoined-kept _ _ _ _ _ _ _ h)))
