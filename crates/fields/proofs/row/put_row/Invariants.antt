-- After i turns the first i fields stand over the output, each behind the one before it, and are added up.
use Rattle.std.proofs.Common.{◌≡◌, length, take}
use Rattle.octets.specs.Over.{over}
use Rattle.packet.specs.Frame.{checksum_of}
use Rattle.fields.specs.Row.{packet_of}
use Rattle.fields.proofs.row.put_row.Given as goal

abbrev pub invariant-loop-field : goal.invariant-loop-field
invariant-loop-field l =
    record {
      len : l.len ≡ length (packet_of l.payload (take l.field-index l.fn.row));
      room : length l.out ≡ length l.initial.out;
      out : l.out ≡ over (packet_of l.payload (take l.field-index l.fn.row)) l.initial.out;
      sum : l.sum ≡ checksum_of (packet_of l.payload (take l.field-index l.fn.row));
    }
