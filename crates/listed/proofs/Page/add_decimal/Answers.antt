-- What was put to the rest of the page, or nothing.
use native.Mathlib.Omega.{arith}
use Rattle.text.specs.Digits.{decimal}
use Rattle.listed.proofs.Adding.{lent, lent-not}
use Rattle.listed.proofs.Page.add_decimal.Goals as goal

pub overflow_add-self : goal.overflow_add-self
overflow_add-self c =
    let page = c.args.self.now in
    omega (arith, (lent (decimal c.args.n) page.bytes page.end 65536 (omega arith) (omega arith) c.in-Ok.ensures).0)

pub invariant_of-self : goal.invariant_of-self
invariant_of-self c =
    let page = c.args.self.now in
    record { within = omega (arith, (lent (decimal c.args.n) page.bytes page.end 65536 (omega arith) (omega arith) c.in-Ok.ensures).0) }

pub returns-in-Ok : goal.returns-in-Ok
returns-in-Ok c =
    let page = c.args.self.now in
    (lent (decimal c.args.n) page.bytes page.end 65536 (omega arith) (omega arith) c.in-Ok.ensures).1

pub returns-in_default : goal.returns-in_default
returns-in_default c =
    let page = c.args.self.now in
    lent-not (decimal c.args.n) page.bytes page.end 65536 (omega arith) (omega arith) (rw c.in_default.is at c.put_decimal.ensures)
