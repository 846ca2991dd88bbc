-- What is read, without its data.
use Rattle.std.proofs.Common.{ap, ◌∙◌, arith}
use Rattle.octets.specs.Outcome.{on_accepted}
use Rattle.images.specs.Inside.{extent_of}
use Rattle.images.proofs.OneLine.{sizes-told, held_more}
use Rattle.images.proofs.row.look_at.Goals as goal

pub returns : goal.returns
returns c = let read = c.read_line in sizes-told read.result _ (held_more read.result 260 _ (omega (arith, read.auto.bytes)) read.ensures.1) ∙ ap (on_accepted extent_of) read.ensures.0
