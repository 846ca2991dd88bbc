-- After k turns the first k fields stand over the output.
use mathlib.Core.Path.{◌≡◌}
use Rattle.octets.specs.Over.{over}
use Rattle.saves.specs.Save.{word_packet, rising}
use Rattle.saves.proofs.save.put_settings.Given as goal

abbrev pub invariant-loop-k : goal.invariant-loop-k
invariant-loop-k l = l.out ≡ over (rising (word_packet l.settings) l.k) l.initial.out
