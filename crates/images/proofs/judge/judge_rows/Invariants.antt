-- The rows so far are marked, and what is left comes to what the whole text does.
use Rattle.std.proofs.Common.{◌≡◌, List, length}
use Rattle.intel_hex.specs.Format.{HexRow}
use Rattle.intel_hex.specs.Reading.{lines_in, rows_from, rows_in}
use Rattle.images.specs.Inside.{Marked}
use Rattle.images.proofs.judge.judge_rows.Given as goal

abbrev pub invariant-loop-rest : goal.invariant-loop-rest
invariant-loop-rest l = (length l.marks ≡ length l.initial.marks) × (rows : List HexRow) × Marked l.marks rows × (rows_from l.size rows (lines_in l.rest) ≡ rows_in l.size l.hex)

abbrev pub decreases-loop-rest : goal.decreases-loop-rest
decreases-loop-rest l = length l.rest
