-- One byte more is one store past what is written.
use mathlib.Core.Path.{refl}
use native.Mathlib.Omega.{arith}
use Prim.Native.Nat.{◌≤◌}
use lib.ListN.{length, length-set}
use lib.Seq.{take_all}
use Rattle.octets.specs.Over.{over}
use Rattle.octets.proofs.Choosing.{tests}
use Rattle.octets.proofs.Overlay.{over-turn}
use Rattle.octets.proofs.put.Goals as goal

pub loop-i-init : goal.loop-i-init
unfolding over
loop-i-init c = (refl, refl)

pub loop-i-preserved : goal.loop-i-preserved
loop-i-preserved c = (simp length-set (omega arith), over-turn _ c.args.out.now _ c.loop-i.invariant.1 (omega arith) (omega arith))

pub returns : goal.returns
returns c = let whole : length c.args.bytes.now ≤ c.loop-i.i = omega arith in rw (c.loop-i.invariant.1, take_all _ _ whole) (search tests)
