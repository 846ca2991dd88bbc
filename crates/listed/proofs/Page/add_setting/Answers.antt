-- The name with the address, a space, the word, the line's end.
use Rattle.listed.specs.Listing.{setting_line}
use Rattle.listed.proofs.Adding.{adds-adds}
use Rattle.listed.proofs.Page.add_setting.Goals as goal

pub returns : goal.returns
unfolding setting_line
returns c = adds-adds c.add_number.ensures (adds-adds c.add.ensures (adds-adds (rw c.hex8.ensures at c.add-2.ensures) c.add-3.ensures))
