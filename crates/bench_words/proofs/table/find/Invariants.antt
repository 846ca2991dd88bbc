-- Each turn counts one name at most.
use Rattle.std.proofs.Common.{◌≤◌}
use Rattle.bench_words.proofs.table.find.Given as goal

abbrev pub invariant-loop-turn : goal.invariant-loop-turn
invariant-loop-turn g l = l.count ≤ l._turn
