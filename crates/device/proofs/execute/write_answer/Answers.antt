-- The frame, or the packet alone.
use Rattle.device.proofs.execute.write_answer.Goals as goal

pub returns-then-framed : goal.returns-then-framed
returns-then-framed c = rw c.if-framed.true c.to_frame.ensures

pub returns-else-framed : goal.returns-else-framed
returns-else-framed c = rw c.if-framed.false c.to_bytes.ensures
