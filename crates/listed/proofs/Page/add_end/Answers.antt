-- The name with the number, the line's end.
use Rattle.listed.specs.Listing.{end_line}
use Rattle.listed.proofs.Adding.{adds-adds}
use Rattle.listed.proofs.Page.add_end.Goals as goal

pub returns : goal.returns
unfolding end_line
returns c = adds-adds c.add_number.ensures c.add.ensures
