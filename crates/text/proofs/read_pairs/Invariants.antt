-- What refuses is settled first; then each turn stores one byte past what is written.
use mathlib.Core.Path.{◌≡◌}
use mathlib.Core.Bool.{false}
use lib.ListN.{length, take}
use Rattle.octets.specs.Over.{over}
use Rattle.text.specs.Read.{not_digits, pairs_in}
use Rattle.text.proofs.read_pairs.Given as goal

abbrev pub invariant-loop-i : goal.invariant-loop-i
invariant-loop-i l = (length l.out ≡ length l.initial.out) × (not_digits l.word ≡ false) × (l.out ≡ over (take l.i (pairs_in l.word)) l.initial.out)
