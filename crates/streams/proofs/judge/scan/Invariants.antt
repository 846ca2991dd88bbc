-- The fields that are left are as sound as all of them, and the sum is that of the bytes gone over.
use Rattle.std.proofs.Common.{◌≡◌, ◌+◌, ◌<◌, ◌≤◌, length, take, get_or}
use Rattle.packet.specs.Frame.{checksum_of}
use Rattle.streams.specs.Inside.{no_fault}
use Rattle.streams.specs.Judge.{fields_mean}
use Rattle.streams.proofs.Judging.{left_mean}
use Rattle.streams.proofs.judge.scan.Given as goal

abbrev pub invariant-bytes : goal.invariant-bytes
invariant-bytes l = record {
  sum : l.sum ≡ checksum_of (take l.i l.frame);
  sums : l.len < l.i → checksum_of (take l.len l.frame) ≡ get_or l.frame l.len 0;
}

abbrev pub invariant-fields : goal.invariant-fields
invariant-fields l = (l.frames + length l.rest ≤ length l.fields) × (no_fault (left_mean l.e l.s l.frames l.rest) ≡ no_fault (fields_mean l.e l.s l.fields))

abbrev pub decreases-fields : goal.decreases-fields
decreases-fields l = length l.rest
