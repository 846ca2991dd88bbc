-- The row's data stand in the buffer.
use Rattle.images.proofs.Placing.{row-placed}
use Rattle.images.proofs.row.place_line.Goals as goal

pub returns : goal.returns
returns c =
    let put = c.put_at in
    let a = c.args in
    row-placed a.line.now c.read_line.new.bytes a.image.now _ _ (rw (c.in-Ok-Some.is, c.in-Ok-Some.field-0-is) at c.read_line.ensures.0) put.ensures
