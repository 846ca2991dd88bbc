-- The sign of 127.0 is turned.
use Rattle.std.proofs.Common.{refl}
use lib.Ieee.{neg, of_bits}
use Rattle.numbers.proofs.gain.Gain.min.Goals as goal

pub returns : goal.returns
unfolding neg of_bits
returns c = refl
