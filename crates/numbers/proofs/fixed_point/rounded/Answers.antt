-- The float of a negative number's size, negated, is the float of the number.
use Rattle.std.proofs.Common.{ap, ◌∙◌, lit≤, w32}
use lib.Ieee.{binary32, neg}
use Rattle.std.proofs.num.Nearest.{turn}
use Rattle.numbers.proofs.fixed_point.rounded.Goals as goal

pub returns : goal.returns
returns c = ap neg c.halves-2.ensures ∙ (turn w32 c.args.z (lit≤ tt) c.ranges.z c.if-z-ge0.false).4 binary32
