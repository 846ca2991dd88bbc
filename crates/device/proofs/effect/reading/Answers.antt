-- The code as a value.
use Rattle.device.proofs.effect.reading.Goals as goal

pub returns : goal.returns
returns c = rw c.from_u32.ensures
