-- What is used ends at or before what there is, and that stands in the input.
use Rattle.std.proofs.Common.{length, ◌≡◌, ◌≤◌}
use Rattle.bench.proofs.console.serve.Given as goal

abbrev pub invariant-loop : goal.invariant-loop
invariant-loop g l = (length l.input ≡ length l.initial.input) × (l.lines.used ≤ l.lines.have) × (l.lines.have ≤ length l.input)
