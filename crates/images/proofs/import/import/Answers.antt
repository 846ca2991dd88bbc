-- Judged, then erased and filled.
use Rattle.std.proofs.lemmas.Result.{err_from_is_err_and}
use Rattle.images.proofs.Placing.{imported, not-imported}
use Rattle.images.proofs.import.import.Goals as goal

pub returns-in_err-judge : goal.returns-in_err-judge
returns-in_err-judge c =
    let a = c.args in
    let p = err_from_is_err_and c.from_residual.result c.from_residual.ensures.1 in
    rw (p.1, p.2) (not-imported a.hex.now a.image.now _ (rw c.in_err-judge.was at c.judge.ensures))

pub returns : goal.returns
returns c =
    let a = c.args in
    imported a.hex.now a.image.now _ (rw c.in_ok-judge.was at c.judge.ensures) (rw c.erase.ensures at c.place_rows.ensures)
