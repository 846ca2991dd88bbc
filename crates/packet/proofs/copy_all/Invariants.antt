-- The bytes so far stand over the output, and are added up.
use Rattle.std.proofs.Common.{◌≡◌, length, take}
use Rattle.octets.specs.Over.{over}
use Rattle.packet.specs.Frame.{checksum_of}
use Rattle.packet.proofs.copy_all.Given as goal

abbrev pub invariant-loop-i : goal.invariant-loop-i
invariant-loop-i l = (length l.out ≡ length l.initial.out) × (l.out ≡ over (take l.i l.bytes) l.initial.out) × (l.sum ≡ checksum_of (take l.i l.bytes))
