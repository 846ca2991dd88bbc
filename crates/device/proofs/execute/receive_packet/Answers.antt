-- Read, then answered.
use Rattle.std.proofs.lemmas.Result.{err_from_is_err_and}
use Rattle.device.proofs.execute.receive_packet.Goals as goal

pub returns-in_err-command : goal.returns-in_err-command
returns-in_err-command c =
    let p = err_from_is_err_and c.from_residual.result c.from_residual.ensures.1 in
    rw (p.1, p.2, ← c.from_bytes.ensures.0, c.in_err-command.was)

pub returns : goal.returns
returns c = rw (← c.from_bytes.ensures.0, c.in_ok-command.was) c.answer_into.ensures
