-- Within the EEPROM, or outside.
use Rattle.octets.proofs.Choosing.{tests}
use native.Mathlib.Omega.{arith}
use Rattle.device.proofs.effect.read_memory.Goals as goal

pub returns-then-e-base : goal.returns-then-e-base
returns-then-e-base c = (λ p. rw (← c.taken.ensures.0) (search tests), omega arith)

pub returns : goal.returns
returns c = rw c.tells.ensures (λ p. rw (← c.taken.ensures.0) (search tests), omega arith)
