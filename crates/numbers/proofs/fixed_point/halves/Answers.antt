-- The two halves can be cast, and their sum is the number rounded once: a law of std.
use Rattle.std.proofs.Common.{lit≤}
use lib.Ieee.{binary32}
use Rattle.std.proofs.num.Nearest.{upper_in, lower_in, halves_masked, two_to_16}
use Rattle.numbers.proofs.fixed_point.halves.Goals as goal

pub int_to_float-upper : goal.int_to_float-upper
int_to_float-upper c = upper_in binary32 16 c.args.n (lit≤ tt) c.ranges.n.fits

pub int_to_float-lower : goal.int_to_float-lower
int_to_float-lower c = lower_in binary32 16 c.args.n (lit≤ tt)

pub returns : goal.returns
returns c = halves_masked binary32 16 c.args.n _ two_to_16 (lit≤ tt) (lit≤ tt) c.ranges.n.fits
