-- Within the settings, or outside.
use native.Mathlib.Omega.{arith}
use Rattle.octets.proofs.Choosing.{tests}
use Rattle.device.proofs.effect.read_floats.Goals as goal

pub returns-then-s-base : goal.returns-then-s-base
returns-then-s-base c = (λ p. search tests, omega arith)

pub returns : goal.returns
returns c = rw c.tells.ensures (λ p. search tests, omega arith)
