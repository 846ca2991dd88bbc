-- The rows so far are marked, and what is left comes to what the whole text does.
use Rattle.std.proofs.Common.{[], ◌∷◌, ◌++◌, sym, refl, ◌∙◌}
use Rattle.intel_hex.specs.Reading.{rows_in}
use Rattle.images.proofs.Lines.{cut-behind}
use Rattle.images.proofs.Named.{unmarked}
use Rattle.images.proofs.judge.judge_rows.Goals as goal

pub loop-rest-init : goal.loop-rest-init
unfolding rows_in
loop-rest-init c = (refl, [], unmarked _ c.requires.1, refl)

pub loop-rest-preserved : goal.loop-rest-preserved
loop-rest-preserved c =
    let inv = c.loop-rest.invariant in
    let more = rw c.in-Row.is at (rw c.in_ok-judge_line.was at c.judge_line.ensures) in
    let next = more.1 inv.1 inv.2 in
    (c.judge_line.auto.marks ∙ inv.0, inv.1 ++ (next.0 ∷ []), next.1, rw (cut-behind _ _ c.line_end.ensures.1) (sym next.2 ∙ inv.3))
