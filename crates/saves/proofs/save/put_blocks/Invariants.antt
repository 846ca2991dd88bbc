-- After k turns the first k fields stand over the output.
use mathlib.Core.Path.{◌≡◌}
use Rattle.octets.specs.Over.{over}
use Rattle.saves.specs.Save.{memory_packet, rising}
use Rattle.saves.proofs.save.put_blocks.Given as goal

abbrev pub invariant-loop-k : goal.invariant-loop-k
invariant-loop-k l = l.out ≡ over (rising (memory_packet l.eeprom) l.k) l.initial.out
