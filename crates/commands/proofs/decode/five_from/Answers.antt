-- Each of the five, by its number.
use Rattle.std.proofs.Common.{arith}
use Rattle.std.proofs.lemmas.Grind.{common_steps}
use Rattle.commands.proofs.decode.five_from.Goals as goal

pub returns : goal.returns
returns c = grind (arith, common_steps)
