-- What is left to place, placed, is what all of it is.
use Rattle.std.proofs.Common.{sym, ◌∙◌}
use Rattle.images.proofs.Lines.{cut-behind}
use Rattle.images.proofs.Placing.{placed-more, placed-last, placed-some}
use Rattle.images.proofs.import.place_rows.Goals as goal

pub loop-rest-smaller : goal.loop-rest-smaller
loop-rest-smaller c =
    let l = c.loop-rest in
    let row = rw (c.line_of.ensures, c.loop-rest-test.true) at c.place_line.ensures in
    rw (cut-behind _ _ c.line_end.ensures.1) (placed-some l.rest.now l.image _ row)

pub loop-rest-preserved : goal.loop-rest-preserved
loop-rest-preserved c =
    let l = c.loop-rest in
    let row = rw (c.line_of.ensures, c.loop-rest-test.true) at c.place_line.ensures in
    (c.place_line.auto.image ∙ l.invariant.0, rw (cut-behind _ _ c.line_end.ensures.1) (sym (placed-more l.rest.now l.image _ row) ∙ l.invariant.1))

pub returns : goal.returns
returns c =
    let l = c.loop-rest in
    let last = rw (c.line_of.ensures, c.loop-rest-test.false) at c.place_line.ensures in
    placed-last l.rest.now l.image _ last ∙ l.invariant.1
