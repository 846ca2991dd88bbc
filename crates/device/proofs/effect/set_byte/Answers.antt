-- Within the EEPROM, or outside.
use native.Mathlib.Omega.{arith}
use Rattle.octets.proofs.Choosing.{tests}
use Rattle.device.proofs.effect.set_byte.Goals as goal

pub returns-then-addr-e : goal.returns-then-addr-e
returns-then-addr-e c = (λ p. search tests, omega arith)

pub returns-else-addr-e : goal.returns-else-addr-e
returns-else-addr-e c = (λ p. search tests, omega arith)
