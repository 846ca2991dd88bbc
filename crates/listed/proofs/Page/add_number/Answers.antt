-- The name, then the number.
use Rattle.listed.proofs.Adding.{adds-adds}
use Rattle.listed.proofs.Page.add_number.Goals as goal

pub returns : goal.returns
returns c = adds-adds c.add.ensures c.add_decimal.ensures
