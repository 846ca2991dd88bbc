-- After i turns the first i words stand over the output.
use mathlib.Core.Path.{◌≡◌}
use lib.ListN.{take}
use Rattle.octets.specs.Over.{over}
use Rattle.device.specs.Data.{word_bytes}
use Rattle.device.proofs.execute.put_words.Given as goal

abbrev pub invariant-loop-i : goal.invariant-loop-i
invariant-loop-i l = l.data ≡ over (word_bytes (take l.i l.words)) l.initial.data
