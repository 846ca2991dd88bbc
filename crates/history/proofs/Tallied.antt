-- After any run of calls, the tally is how many calls of the received-frame entry were accepted and how many refused since it was
-- zeroed, each held at the most.
use mathlib.Core.Path.{◌≡◌, refl, sym, ◌∙◌}
use mathlib.Core.List.{List, [], ◌∷◌}
use Rattle.processor.specs.Memory.{Memory}
use Rattle.tally.specs.Tally.{zeroed, tally_after, counts_of}
use Rattle.tally.specs.declared.Tally.{Tally}
use Rattle.tally.proofs.Tallies.{tally-counts, after_both}
use Rattle.history.specs.History.{Call, step}
use Rattle.history.specs.Tallied.{counted, answers_in, tallied}

over-answers : (cs : List Call) (m : Memory) (t : Tally) → tallied t cs m ≡ tally_after t (answers_in cs m)
over-answers [] m t = refl
over-answers (c ∷ cs) m t = over-answers cs (step c m) (tally_after t (counted c m)) ∙ sym (after_both (counted c m) (answers_in cs (step c m)) t)

pub history-tally : (cs : List Call) (m : Memory) → tallied zeroed cs m ≡ counts_of (answers_in cs m)
history-tally cs m = over-answers cs m zeroed ∙ tally-counts (answers_in cs m)
