-- What all digits spell is what those from i on spell behind the number so far.
use Prim.Native.Nat.{◌<◌}
use mathlib.Core.Path.{◌≡◌}
use lib.ListN.{drop}
use Rattle.text.specs.Read.{spelled, small, number_in}
use Rattle.text.proofs.read_number.Given as goal

abbrev pub invariant-loop-byte : goal.invariant-loop-byte
invariant-loop-byte l = (l.n < 4294967296) × (small (spelled l.base l.n (drop l.byte-index l.word)) ≡ number_in l.base l.word)
