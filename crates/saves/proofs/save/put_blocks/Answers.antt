-- After k turns the first k fields stand over the output.
use Prim.Native.Nat.{◌+◌, ◌*◌, ◌≤◌}
use mathlib.Core.Path.{◌≡◌}
use native.Mathlib.Omega.{arith}
use lib.ListN.{length}
use Rattle.saves.specs.Save.{memory_packet, rising}
use Rattle.saves.proofs.Saved.{length-blocks, length-memory-packet, rising_none, rising-next}
use Rattle.saves.proofs.save.put_blocks.Goals as goal

pub loop-k-init : goal.loop-k-init
loop-k-init c = rising_none _ _

pub loop-k-preserved : goal.loop-k-preserved
loop-k-preserved c =
    let a = c.args in
    let e = a.eeprom.now in
    let k = c.loop-k.k in
    let is : 40 * k ≡ length (rising (memory_packet e) k) = omega (arith, length-blocks e k) in
    let room : 40 * k + (length (memory_packet e k) + 5) ≤ length a.out.now = omega (arith, length-memory-packet e k) in
    (rising-next (memory_packet e) k (40 * k) a.out.now is room c.loop-k.invariant c.put_block.ensures).1
