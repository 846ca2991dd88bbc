-- The packet's bytes are those of the command, for as many bytes as the block has.
use Prim.Native.Nat.{◌+◌}
use mathlib.Core.Path.{◌≡◌}
use native.Mathlib.Nat.{sub-zero}
use native.Mathlib.Omega.{arith}
use lib.ListN.{length}
use Rattle.octets.proofs.Overlay.{over-part}
use Rattle.saves.specs.Save.{memory_packet}
use Rattle.saves.proofs.Saved.{length-block, memory-bytes, length-memory-packet}
use Rattle.saves.proofs.save.put_block.Goals as goal

pub put_memory-requires : goal.put_memory-requires
put_memory-requires c =
    let a = c.args in
    rw (c.part.ensures, c.min-len.ensures) (omega (arith, length-block a.eeprom.now a.k))

pub returns : goal.returns
returns c =
    let a = c.args in
    let e = a.eeprom.now in
    let is = memory-bytes e a.k in
    let wrote = rw (c.part.ensures, c.min-len.ensures, ← is) at c.put_memory.ensures in
    let size : c.min-len.result + 3 ≡ length (memory_packet e a.k) = omega (arith, c.min-len.ensures, length-memory-packet e a.k) in
    let packet = rw sub-zero at (over-part (memory_packet e a.k) _ wrote 0 (c.min-len.result + 3) (omega arith) size) in
    rw packet at c.put_frame.ensures
