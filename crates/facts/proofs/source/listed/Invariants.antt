-- The sources so far stand in their places, and behind them the filler.
use Prim.Native.Nat.{◌-◌}
use mathlib.Core.Path.{◌≡◌}
use mathlib.Core.List.{◌++◌}
use lib.ListN.{take, replicate}
use Rattle.facts.specs.Source.{entry, numbered}
use Rattle.facts.specs.declared.source.Source.TheVariants.{NotInstalled}
use Rattle.facts.proofs.source.listed.Given as goal

abbrev pub invariant-loop-i : goal.invariant-loop-i
invariant-loop-i g l = l.entries ≡ numbered 0 (take l.i l.fn.sources) ++ replicate (7 - l.i) (entry NotInstalled 0)
