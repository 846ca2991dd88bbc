use Rattle.std.proofs.Common.{ap, ◌∙◌}
use Rattle.octets.specs.Place.{part_of}
use Rattle.octets.proofs.Parts.{part-rest}
use Rattle.streams.proofs.stream.fields_of.Goals as goal

pub returns : goal.returns
returns c = let l = c.args.save.now in c.part.ensures ∙ ap (part_of l) c.rest_of.ensures ∙ part-rest l 11
