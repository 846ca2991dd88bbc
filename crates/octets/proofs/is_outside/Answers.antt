-- The code takes the start away where the definition adds it, so that nothing can overflow.
use Rattle.std.proofs.Common.{rules}
use Rattle.octets.specs.Place.{is_outside}
use Rattle.octets.proofs.is_outside.Goals as goal

pub returns-then-have-place : goal.returns-then-have-place
unfolding is_outside
returns-then-have-place c = search rules

pub returns-else-have-place : goal.returns-else-have-place
unfolding is_outside
returns-else-have-place c = search rules
