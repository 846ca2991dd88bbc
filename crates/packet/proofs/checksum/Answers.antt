-- One byte more is one step of `total`.
use Rattle.std.proofs.Common.{refl, arith}
use Rattle.packet.specs.Frame.{total}
use Rattle.packet.proofs.Frames.{total-turn}
use Rattle.packet.proofs.checksum.Goals as goal

pub loop-byte-init : goal.loop-byte-init
unfolding total
loop-byte-init c = refl

pub loop-byte-preserved : goal.loop-byte-preserved
loop-byte-preserved c = omega (arith, total-turn c.args.bytes.now c.loop-byte.byte-index (omega arith))
