-- Up to the top all of them.
use native.Mathlib.Omega.{arith}
use Rattle.octets.proofs.Choosing.{below, above}
use mathlib.Core.Path.{refl}
use Rattle.device.proofs.effect.taken.Goals as goal

pub returns-then-size-addr : goal.returns-then-size-addr
returns-then-size-addr c = (above _ _ _ _ _ (omega arith) refl, omega arith)

pub returns-else-size-addr : goal.returns-else-size-addr
returns-else-size-addr c = (below _ _ _ _ _ (omega arith) refl, omega arith)
