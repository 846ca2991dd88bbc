-- By what the first line is, and by whether it has its line end.
use Rattle.std.proofs.Common.{sym, ◌∙◌, arith}
use Rattle.std.proofs.lemmas.Result.{err_from_is_err_and}
use Rattle.images.proofs.Judging.{told-row, told-end, told-fault, last_step_lem, row_step, end_step, fault-step}
use Rattle.images.proofs.judge.judge_line.Goals as goal

pub returns-then-n-rest : goal.returns-then-n-rest
returns-then-n-rest c =
    let a = c.args in
    let told = rw c.line_of.ensures at c.look_at-line.ensures in
    rw c.last_line.ensures (last_step_lem a.size a.rest.now _ _ (sym c.until-n.ensures.0 ∙ c.if-n-rest.true) c.look_at-line.result told)

pub returns-in-Some : goal.returns-in-Some
returns-in-Some c =
    let fit = c.judge_row in
    let a = c.args in
    let told = rw (c.line_of.ensures, c.in_ok-row.was, c.in-Some.is) at c.look_at-line.ensures in
    let says = told-row _ _ told in
    row_step a.size a.rest.now a.marks.now fit.new.marks (omega (arith, c.until-n.ensures.0, c.until-n.ensures.1, c.if-n-rest.false)) (omega arith) says.row says.is fit.result (rw (says.starts, says.counts) fit.ensures)

pub returns-in-None : goal.returns-in-None
returns-in-None c =
    let a = c.args in
    let told = rw (c.line_of.ensures, c.in_ok-row.was, c.in-None.is) at c.look_at-line.ensures in
    rw (c.end_line.ensures, c.until-n.ensures.0) (end_step a.size a.rest.now _ _ (omega (arith, c.until-n.ensures.0, c.until-n.ensures.1, c.if-n-rest.false)) (told-end _ told))

pub returns-in_err-row : goal.returns-in_err-row
returns-in_err-row c =
    let a = c.args in
    let told = rw (c.line_of.ensures, c.in_err-row.was) at c.look_at-line.ensures in
    let p = err_from_is_err_and c.from_residual.result c.from_residual.ensures.1 in
    rw (p.1, p.2) (fault-step a.size a.rest.now a.marks.now a.marks.now (omega (arith, c.until-n.ensures.0, c.until-n.ensures.1, c.if-n-rest.false)) _ (told-fault _ _ told))
