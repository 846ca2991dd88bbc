-- What is left to place, placed, is what all of it is.
use Rattle.std.proofs.Common.{◌≡◌, length}
use Rattle.intel_hex.specs.Reading.{lines_in}
use Rattle.images.specs.Import.{placed}
use Rattle.images.specs.Inside.{rows_here}
use Rattle.images.proofs.import.place_rows.Given as goal

abbrev pub invariant-loop-rest : goal.invariant-loop-rest
invariant-loop-rest l = (length l.image ≡ length l.initial.image) × (placed (rows_here (lines_in l.rest)) l.image ≡ placed (rows_here (lines_in l.hex)) l.initial.image)

abbrev pub decreases-loop-rest : goal.decreases-loop-rest
decreases-loop-rest l = length l.rest
