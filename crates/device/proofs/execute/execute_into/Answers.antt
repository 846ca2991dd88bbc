-- Sized, then answered.
use Rattle.device.proofs.execute.execute_into.Goals as goal

pub returns-then-too_large : goal.returns-then-too_large
returns-then-too_large c = rw (← c.too_large.ensures, c.if-too_large.true)

pub returns : goal.returns
returns c = rw (← c.too_large.ensures, c.if-too_large.false) c.answer_into.ensures
