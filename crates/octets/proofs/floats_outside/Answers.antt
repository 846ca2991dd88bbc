-- A count above a quarter of what is there is four times as many bytes and more.
use Rattle.std.proofs.Common.{rules}
use Rattle.octets.specs.Place.{is_outside}
use Rattle.octets.proofs.floats_outside.Goals as goal

pub returns-then-have-start : goal.returns-then-have-start
unfolding is_outside
returns-then-have-start c = search rules

pub returns-else-have-start : goal.returns-else-have-start
unfolding is_outside
returns-else-have-start c = search rules
