-- The head, then the count.
use mathlib.Core.Path.{sym}
use native.Mathlib.Omega.{arith}
use Rattle.octets.specs.Number.{big_bytes}
use Rattle.octets.proofs.InBytes.{length-big}
use Rattle.saves.specs.Save.{end_field}
use Rattle.saves.proofs.Saved.{field_put}
use Rattle.saves.proofs.save.put_end.Goals as goal

pub returns : goal.returns
unfolding end_field
returns c =
    let a = c.args in
    let count = rw c.big_bytes.ensures at c.put-2.ensures in
    field_put 0x7F 4 a.out.now c.head.ensures c.put.ensures (big_bytes 4 a.frames) count (sym (length-big 4 a.frames)) (omega arith)
