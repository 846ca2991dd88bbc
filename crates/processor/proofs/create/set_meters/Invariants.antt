-- The meters so far are set.
use mathlib.Core.Path.{◌≡◌}
use lib.ListN.{take}
use Rattle.processor.specs.Create.{with_meters}
use Rattle.processor.proofs.create.set_meters.Given as goal

abbrev pub invariant-loop-meter : goal.invariant-loop-meter
invariant-loop-meter l = l.settings ≡ with_meters (take l.meter-index l.meters) l.initial.settings
