-- One byte more is one store past what is written, and one step of `total`.
use Rattle.std.proofs.Common.{refl, arith, length-set}
use Rattle.octets.specs.Over.{over}
use Rattle.octets.proofs.Overlay.{over-turn}
use Rattle.packet.specs.Frame.{total}
use Rattle.packet.proofs.Frames.{total-turn}
use Rattle.packet.proofs.copy_all.Goals as goal

pub loop-i-init : goal.loop-i-init
unfolding over total
loop-i-init c = (refl, refl, refl)

pub loop-i-preserved : goal.loop-i-preserved
loop-i-preserved c =
    let a = c.args in
    let inv = c.loop-i.invariant in
    (simp length-set (omega arith), over-turn _ a.out.now _ inv.1 (omega arith) (omega arith), omega (arith, total-turn a.bytes.now c.loop-i.i (omega arith)))
