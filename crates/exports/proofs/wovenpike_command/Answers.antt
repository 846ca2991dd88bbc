-- The answer of the command's frame writer, as a number; its row has no values.
use mathlib.Core.Path.{ap}
use Rattle.exports.specs.Answer.{out_number}
use Rattle.exports.proofs.wovenpike_command.Goals as goal

pub returns : goal.returns
returns c = rw c.number_of.ensures (ap out_number c.to_frame.ensures)
