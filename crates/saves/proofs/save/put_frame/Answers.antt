-- The head, then the frame, for a packet that is short enough.
use Prim.Native.Nat.{◌+◌}
use mathlib.Core.Path.{refl, sym, ◌∙◌}
use native.Mathlib.Omega.{arith}
use lib.ListN.{length}
use Rattle.octets.proofs.Choosing.{above}
use Rattle.packet.specs.Frame.{frame_of}
use Rattle.packet.proofs.Frames.{length-frame}
use Rattle.saves.specs.Save.{frame_field}
use Rattle.saves.proofs.Saved.{field_put}
use Rattle.saves.proofs.save.put_frame.Goals as goal

pub returns : goal.returns
unfolding frame_field
returns c =
    let a = c.args in
    let p = a.packet.now in
    let wrote = c.frame.ensures ∙ sym (above _ _ _ _ _ (omega arith) refl) in
    field_put 0x10 (length p + 2) a.out.now c.head.ensures c.put.ensures (frame_of p) wrote (omega (arith, length-frame p)) (omega arith)
