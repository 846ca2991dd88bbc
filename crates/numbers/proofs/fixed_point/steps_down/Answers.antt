-- A law of proofs/Steps.antt for each shift.
use Rattle.std.proofs.Common.{rules}
use Rattle.numbers.proofs.Steps.{down-low, down-mid, down-high}
use Rattle.numbers.proofs.fixed_point.steps_down.Goals as goal

pub returns-then-x-lt103 : goal.returns-then-x-lt103
returns-then-x-lt103 c = down-low _ _ (search rules) (search rules)

pub returns-then-x-lt127 : goal.returns-then-x-lt127
returns-then-x-lt127 c = down-mid _ _ (search rules) (search rules) (search rules)

pub returns : goal.returns
returns c = down-high _ _ (search rules) (search rules) (search rules)
