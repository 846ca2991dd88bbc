-- A turn is two stores past what is written: after i turns the digits of the first i bytes stand over the output.
use mathlib.Core.Path.{◌≡◌}
use lib.ListN.{length, take}
use Rattle.octets.specs.Over.{over}
use Rattle.text.specs.Digits.{pairs_of}
use Rattle.text.proofs.put_pairs.Given as goal

abbrev pub invariant-loop-i : goal.invariant-loop-i
invariant-loop-i l = (length l.out ≡ length l.initial.out) × (l.out ≡ over (pairs_of (take l.i l.bytes)) l.initial.out)
