-- The packet is copied to the lent rest, added up on the way, and closed.
use Rattle.std.proofs.Common.{◌-◌, ◌≤◌, length, take, drop, refl, ◌∙◌, arith, length-drop, length-take}
use Rattle.octets.proofs.Choosing.{below, above}
use Rattle.octets.proofs.Overlay.{put-over, over-from}
use Rattle.packet.proofs.Frames.{length-frame, never-refused, closed}
use Rattle.packet.proofs.frame.Goals as goal

pub returns-then-out-n : goal.returns-then-out-n
returns-then-out-n c = rw length-frame (above _ _ _ _ _ (omega arith) (below _ _ _ _ _ (omega arith) refl))

pub returns-in_err-copied : goal.returns-in_err-copied
returns-in_err-copied c =
    let p = c.args.packet.now in
    let l = c.args.out.now in
    let rest = take (length l - 1) (drop 1 l) in
    absurd (never-refused p rest _ c.in_err-copied.ensures.out_after (simp (length-take, length-drop) (omega arith)))

pub returns : goal.returns
returns c =
    let p = c.args.packet.now in
    let l = c.args.out.now in
    let put = c.in_ok-copied.ensures in
    let rest = take (length l - 1) (drop 1 l) in
    let room : length p ≤ length rest = simp (length-take, length-drop) (omega arith) in
    let wrote = over-from l 1 p (omega arith) (put-over p rest put.out_after room) in
    above _ _ _ _ _ (omega arith) (c.close_with.ensures ∙ closed p l (length p) _ refl put.sum_of (omega arith) (omega arith) wrote)
