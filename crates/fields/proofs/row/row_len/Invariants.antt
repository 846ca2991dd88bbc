-- The total is the length of the fields passed by, capped.
use Rattle.std.proofs.Common.{◌≡◌, min, length, take}
use Rattle.fields.specs.Row.{packet_of}
use Rattle.fields.proofs.row.row_len.Given as goal

abbrev pub invariant-loop-field : goal.invariant-loop-field
invariant-loop-field l = l.total ≡ min 255 (length (packet_of l.payload (take l.field-index l.fn.row)))
