-- Sized, received, then read.
use Rattle.std.proofs.lemmas.Result.{err_from_is_err_and}
use Rattle.device.proofs.execute.receive.Goals as goal

pub returns-then-too_large : goal.returns-then-too_large
returns-then-too_large c = rw (← c.too_large.ensures, c.if-too_large.true)

pub returns-in_err-place : goal.returns-in_err-place
returns-in_err-place c =
    let p = err_from_is_err_and c.from_residual.result c.from_residual.ensures.1 in
    rw (p.1, p.2, ← c.too_large.ensures, c.if-too_large.false, ← c.unframe.ensures, c.in_err-place.was)

pub returns : goal.returns
returns c = rw (← c.too_large.ensures, c.if-too_large.false, ← c.unframe.ensures, c.in_ok-place.was, ← c.part.ensures) c.receive_packet.ensures
