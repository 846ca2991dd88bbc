-- What was put, or nothing.
use native.Mathlib.Omega.{arith}
use Rattle.listed.proofs.Adding.{wrote, wrote-not}
use Rattle.listed.proofs.Page.add.Goals as goal

pub overflow_add-self : goal.overflow_add-self
overflow_add-self c =
    let page = c.args.self.now in
    omega (arith, (wrote c.args.bytes.now page.bytes page.end c.in-Ok.ensures).0)

pub invariant_of-self : goal.invariant_of-self
invariant_of-self c =
    let page = c.args.self.now in
    record { within = omega (arith, (wrote c.args.bytes.now page.bytes page.end c.in-Ok.ensures).0) }

pub returns-in-Ok : goal.returns-in-Ok
returns-in-Ok c = (wrote _ _ _ c.in-Ok.ensures).1

pub returns-in_default : goal.returns-in_default
returns-in_default c = wrote-not _ _ _ (rw c.in_default.is at c.put_at.ensures)
