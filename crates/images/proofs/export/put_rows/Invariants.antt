-- After k turns the first k rows stand over the output.
use Rattle.std.proofs.Common.{◌≡◌, length}
use Rattle.octets.specs.Over.{over}
use Rattle.intel_hex.specs.Writing.{export_rows}
use Rattle.images.proofs.export.put_rows.Given as goal

abbrev pub invariant-loop-k : goal.invariant-loop-k
invariant-loop-k l = (length l.out ≡ length l.initial.out) × (l.out ≡ over (export_rows l.eeprom l.k) l.initial.out)
