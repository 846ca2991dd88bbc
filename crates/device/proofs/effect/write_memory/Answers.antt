-- The place is within the payload, and the bytes within the EEPROM.
use native.Mathlib.Omega.{arith}
use Rattle.octets.proofs.Choosing.{tests, above}
use mathlib.Core.Path.{refl}
use Rattle.device.proofs.effect.write_memory.Goals as goal

pub returns-then-is_outside : goal.returns-then-is_outside
returns-then-is_outside c = (rw (← c.is_outside.ensures, c.if-is_outside.true), omega arith)

pub returns-then-e-addr : goal.returns-then-e-addr
returns-then-e-addr c = (rw (← c.is_outside.ensures, c.if-is_outside.false) (search tests), omega arith)

pub returns : goal.returns
returns c = (rw (← c.is_outside.ensures, c.if-is_outside.false) (above _ _ _ _ _ (omega arith) refl), omega arith)
