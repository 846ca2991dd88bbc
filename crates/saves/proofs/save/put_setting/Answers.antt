-- The packet's bytes are those of the command.
use native.Mathlib.Omega.{arith}
use Rattle.saves.proofs.Saved.{word_bytes}
use Rattle.saves.proofs.save.put_setting.Goals as goal

pub returns : goal.returns
returns c =
    let a = c.args in
    rw (word_bytes a.settings.now a.k (omega arith)) (rw c.word_packet.ensures at c.put_frame.ensures)
