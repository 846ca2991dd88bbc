-- The sum is that of the bytes so far. Adding as bytes is adding, then taking the remainder, so that one byte more is
-- one step of `total`.
use Rattle.std.proofs.Common.{◌≡◌, take}
use Rattle.packet.specs.Frame.{checksum_of}
use Rattle.packet.proofs.checksum.Given as goal

abbrev pub invariant-loop-byte : goal.invariant-loop-byte
invariant-loop-byte l = l.sum ≡ checksum_of (take l.byte-index l.bytes)
