-- By where its line end stands.
use Rattle.std.proofs.Common.{sym, ◌∙◌, arith}
use Rattle.images.proofs.Lines.{first_ended, first-unended}
use Rattle.images.proofs.row.line_of.Goals as goal

pub returns-then-n-rest : goal.returns-then-n-rest
returns-then-n-rest c = sym (first-unended c.args.rest.now (sym c.until-n.ensures.0 ∙ c.if-n-rest.true))

pub returns-else-n-rest : goal.returns-else-n-rest
returns-else-n-rest c =
    let n = c.until-n in
    c.without_cr.ensures ∙ sym (first_ended c.args.rest.now n.result n.ensures.0 (omega (arith, n.ensures.1, c.if-n-rest.false)))
