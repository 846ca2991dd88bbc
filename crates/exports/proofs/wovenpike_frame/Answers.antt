-- The answer of the frame writer, as a number.
use mathlib.Core.Path.{ap}
use Rattle.exports.specs.Answer.{out_number}
use Rattle.exports.proofs.wovenpike_frame.Goals as goal

pub returns : goal.returns
returns c = rw c.number_of.ensures (ap out_number c.frame.ensures)
