-- Received, then counted.
use mathlib.Core.Path.{ap, ◌∙◌}
use Rattle.octets.specs.Refusals.{number_of}
use Rattle.tally.specs.Tally.{after}
use Rattle.tally.proofs.Counting.{by-number}
use Rattle.tally.proofs.receive.receive_counted.Goals as goal

pub returns : goal.returns
returns c = (c.receive-answer.ensures, c.count-tally.ensures number_of ∙ ap (after c.args.tally) (by-number c.receive-answer.result))
