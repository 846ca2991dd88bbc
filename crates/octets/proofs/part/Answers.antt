-- Cut to what there is, in the start and then in the length.
use Rattle.octets.proofs.Parts.{part-capped}
use Rattle.octets.proofs.part.Goals as goal

pub returns : goal.returns
returns c = part-capped _ _ _ _ c.min-start.ensures c.min-len.ensures
