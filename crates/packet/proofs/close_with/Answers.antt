-- The length byte stands before the packet, and behind it what both add up to.
use Rattle.std.proofs.Common.{◌≡◌, ◌+◌, ◌%◌, [], ◌∷◌, length, take, drop, refl, arith, length-drop, length-take}
use Rattle.octets.proofs.Choosing.{above}
use Rattle.octets.proofs.Overlay.{put-over, put_rest}
use Rattle.packet.proofs.Frames.{headed-over}
use Rattle.packet.proofs.close_with.Goals as goal

pub returns : goal.returns
returns c =
    let l = c.args.out.now in
    let n = c.args.n in
    let p = take n (drop 1 l) in
    let s = (n + 1 + c.args.sum) % 256 in
    let long : n ≡ length p = simp (length-take, length-drop) (omega arith) in
    let body = headed-over l n (omega arith) (put-over ((n + 1) ∷ []) l c.put.ensures (omega arith)) in
    let whole = put_rest ((n + 1) ∷ p) l body (s ∷ []) (n + 1) c.put-2.ensures (omega arith) (omega arith) in
    rw whole (above _ _ _ _ _ (omega arith) (above _ _ _ _ _ (omega arith) refl))
