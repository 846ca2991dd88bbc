-- The name with one number, the other, the line's end.
use mathlib.Core.List.{◌∷◌, ◌++◌, append_assoc}
use Rattle.text.specs.Digits.{decimal}
use Rattle.listed.specs.Listing.{space, line_end, pair_line}
use Rattle.listed.proofs.Adding.{adds-adds}
use Rattle.listed.proofs.Page.add_pair.Goals as goal

pub returns : goal.returns
unfolding pair_line
returns c =
    let a = c.args in
    rw (← append_assoc a.name.now (decimal a.a) (space ∷ (decimal a.b ++ line_end))) (adds-adds c.add_number.ensures (adds-adds c.add_number-2.ensures c.add.ensures))
