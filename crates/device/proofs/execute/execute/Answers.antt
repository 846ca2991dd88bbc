-- Decided, then stored.
use native.Mathlib.Omega.{arith}
use Rattle.std.proofs.lemmas.Result.{err_from_is_err_and}
use Rattle.device.proofs.execute.execute.Goals as goal

pub returns-then-too_large : goal.returns-then-too_large
returns-then-too_large c = rw (← c.too_large.ensures, c.if-too_large.true)

pub put_data-requires : goal.put_data-requires
put_data-requires c = (rw c.in_ok-response.was at c.decide.ensures.1, omega arith)

pub returns-in_err-response : goal.returns-in_err-response
returns-in_err-response c =
    let p = err_from_is_err_and c.from_residual.result c.from_residual.ensures.1 in
    rw (p.1, p.2, ← c.too_large.ensures, c.if-too_large.false, ← c.decide.ensures.0, c.in_err-response.was)

pub returns : goal.returns
returns c = rw (← c.too_large.ensures, c.if-too_large.false, ← c.decide.ensures.0, c.in_ok-response.was, c.store.ensures, c.put_data.ensures.1)
