-- What stands there is added up, and closed with its sum.
use Rattle.std.proofs.Common.{◌∙◌}
use Rattle.octets.specs.Place.{part_of}
use Rattle.packet.proofs.Frames.{closed-by}
use Rattle.packet.proofs.close.Goals as goal

pub returns : goal.returns
unfolding part_of
returns c = c.close_with.ensures ∙ rw (c.checksum-sum.ensures, c.part.ensures) (closed-by c.args.out.now c.args.n)
