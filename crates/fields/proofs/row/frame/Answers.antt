-- What was settled tells that the row can be framed: its packet is written to the lent rest, added up on the way, and closed.
use Rattle.std.proofs.Common.{◌≡◌, ℕ, ◌+◌, ◌-◌, ◌≤◌, List, length, take, drop, refl, ◌∙◌, arith, length-drop, length-take}
use Rattle.octets.proofs.Choosing.{below, refused-accepted}
use Rattle.octets.proofs.Outcomes.{same-value}
use Rattle.octets.proofs.Overlay.{over-from, put-over}
use Rattle.packet.proofs.Frames.{length-frame, closed}
use Rattle.fields.specs.Row.{packet_of}
use Rattle.fields.proofs.Settled.{Ready, was_settled, room-written}
use Rattle.fields.proofs.row.frame.Goals as goal
use Rattle.fields.proofs.row.frame.Goals.{In_ok-n}

ready : (c : In_ok-n) → Ready c.args.payload.now c.args.row c.in_ok-n.n
ready c = was_settled _ _ _ c.in_ok-n.ensures

-- there is room behind the length byte
room : (p l : List ℕ) (n : ℕ) → n ≡ length p → n + 2 ≤ length l → length p ≤ length (take (length l - 1) (drop 1 l))
room p l n e h = simp (length-take, length-drop) (omega arith)

pub overflow_add-n : goal.overflow_add-n
overflow_add-n c = omega (arith, (ready (goal.at.overflow_add-n c).In_ok-n).short)

pub returns-then-out-n : goal.returns-then-out-n
returns-then-out-n c = let r = ready (goal.at.returns-then-out-n c).In_ok-n in rw r.is (below _ _ _ _ _ (rw length-frame (omega (arith, r.count))) refl)

pub put_row-requires : goal.put_row-requires
put_row-requires c =
    let r = ready (goal.at.put_row-requires c).In_ok-n in
    record {
      all_writable = r.sound;
      row_len_bound = omega (arith, r.count, r.short);
      row_in_bounds = room _ _ _ r.count (omega arith);
    }

pub returns-in_err-put : goal.returns-in_err-put
returns-in_err-put c =
    let r = ready (goal.at.returns-in_err-put c).In_ok-n in
    absurd (refused-accepted (room-written _ _ c.in_err-put.ensures.out_after (room _ _ _ r.count (omega arith))))

pub returns : goal.returns
returns c =
    let r = ready (goal.at.returns c).In_ok-n in
    let a = c.args in
    let p = packet_of a.payload.now a.row in
    let l = a.out.now in
    let put = c.in_ok-put in
    let fits = room p l _ r.count (omega arith) in
    let n : put.put.len ≡ length p = same-value (room-written _ _ put.ensures.out_after fits) in
    let wrote = over-from l 1 p (omega (arith, r.count)) (put-over _ _ put.ensures.out_after fits) in
    rw r.is (c.close_with.ensures ∙ closed p l put.put.len _ n put.ensures.sum_of (omega (arith, n, r.count, r.short)) (omega (arith, n, r.count)) wrote)
