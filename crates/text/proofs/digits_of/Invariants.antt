-- Each turn sets the last digit of what is left before those that stand there.
use Rattle.std.proofs.Common.{◌≡◌, ◌≤◌, ◌++◌, length, drop}
use Rattle.text.specs.Digits.{decimal}
use Rattle.text.proofs.digits_of.Given as goal

abbrev pub invariant-loop-rest : goal.invariant-loop-rest
invariant-loop-rest l = (length l.bytes ≡ 20) × (l.start ≤ 20) × (length (decimal l.rest) ≤ l.start) × (decimal l.rest ++ drop l.start l.bytes ≡ decimal l.n)

abbrev pub decreases-loop-rest : goal.decreases-loop-rest
decreases-loop-rest l = l.rest
