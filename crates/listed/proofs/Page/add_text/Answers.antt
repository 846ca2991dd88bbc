-- The first line, those of the frames, the last line.
use Rattle.listed.specs.Listing.{text_for}
use Rattle.listed.specs.Inside.{lines_of}
use Rattle.listed.proofs.Adding.{adds-adds}
use Rattle.listed.proofs.Page.add_text.Goals as goal

pub returns : goal.returns
unfolding text_for lines_of
returns c =
    let lines = rw c.fields_of.ensures at c.add_lines-frames.ensures in
    adds-adds c.add_pair.ensures (adds-adds lines.1 (rw lines.0 at c.add_end.ensures))
