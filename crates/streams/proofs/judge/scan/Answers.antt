-- The fields that are left are as sound as all of them, and the sum is that of the bytes gone over.
use Rattle.std.proofs.Common.{◌≡◌, take, sym, refl, ap, ◌∙◌, arith}
use Rattle.std.proofs.lemmas.Result.{err_from_is_err_and}
use Rattle.octets.specs.Outcome.{accepted}
use Rattle.octets.specs.Number.{at}
use Rattle.packet.specs.Frame.{total, checksum_of}
use Rattle.packet.specs.Receipt.{length_byte}
use Rattle.packet.proofs.Frames.{total-turn}
use Rattle.streams.specs.Stream.{tag_of}
use Rattle.streams.specs.Inside.{no_fault, receipt_of}
use Rattle.streams.proofs.Streams.{tag-whole, cut-behind, behind-shorter}
use Rattle.streams.proofs.Judging.{all_left, none_left, as_long, not-received, not-summed, not-meant, goes_on}
use Rattle.streams.proofs.judge.scan.Goals as goal
use Rattle.streams.proofs.judge.scan.Goals.{Else-tag_of-ne-FRAME, In_ok-receipt, After-packet_in, else-i-len-via-then-i-len+else-sum-byte, else-i-len-via-else-i-len}

-- the frame at the front of what is left
is-frame : (c : Else-tag_of-ne-FRAME) → tag_of c.fields.rest.now ≡ 0x10
is-frame c = sym c.tag_of.ensures ∙ c.if-tag_of-ne-FRAME.false

-- its receipt went well
received : (c : In_ok-receipt) → accepted tt ≡ receipt_of c.content_of-frame.result.now
received c = c.in_ok-receipt.ensures

-- and its checksum is the sum
sums : (c : After-packet_in) → let f = c.content_of-frame.result.now in accepted tt ≡ receipt_of f → checksum_of (take (length_byte f) f) ≡ at f (length_byte f)
sums c r = rw (← c.byte-len.ensures) (c.bytes.invariant.sums (omega (arith, as_long c.content_of-frame.result.now r, c.byte-len.ensures)))

pub fields-init : goal.fields-init
fields-init c = let a = c.args in (omega arith, ap no_fault (all_left a.e a.s a.fields.now))

pub bytes-init : goal.bytes-init
unfolding total
bytes-init c = record { sum = refl; sums = λ h. absurd (omega arith) }

pub bytes-preserved : goal.bytes-preserved
bytes-preserved c =
    let f = c.content_of-frame.result.now in
    let turned = total-turn f c.bytes.i c.bytes-test.true in record {
      sum = omega arith;
      sums = elim c.else-i-len.branch [
        | else-i-len-via-then-i-len+else-sum-byte w ↦ λ h. rw (← w.if-i-len.true) (sym c.bytes.invariant.sum ∙ w.if-sum-byte.false)
        | else-i-len-via-else-i-len w ↦ λ h. c.bytes.invariant.sums (omega (arith, w.if-i-len.false))
      ];
    }

pub slice_bounds-rest-count : goal.slice_bounds-rest-count
slice_bounds-rest-count c = omega (arith, c.field_end-end.ensures, tag-whole c.fields.rest.now (is-frame (goal.at.slice_bounds-rest-count c).Else-tag_of-ne-FRAME))

pub slice_bounds-rest-start : goal.slice_bounds-rest-start
slice_bounds-rest-start c = omega (arith, c.field_end-end.ensures, tag-whole c.fields.rest.now (is-frame (goal.at.slice_bounds-rest-start c).Else-tag_of-ne-FRAME))

pub fields-smaller : goal.fields-smaller
fields-smaller c = rw (cut-behind c.fields.rest.now c.field_end-end.result c.field_end-end.ensures) (behind-shorter c.fields.rest.now (is-frame (goal.at.fields-smaller c).Else-tag_of-ne-FRAME))

pub fields-preserved : goal.fields-preserved
fields-preserved c =
    let shorter = behind-shorter c.fields.rest.now (is-frame (goal.at.fields-preserved c).Else-tag_of-ne-FRAME) in
    rw (cut-behind c.fields.rest.now c.field_end-end.result c.field_end-end.ensures)
    (omega (arith, shorter), goes_on c.args.e c.args.s c.fields.frames c.fields.rest.now c.content_of-frame.result.now (is-frame (goal.at.fields-preserved c).Else-tag_of-ne-FRAME) c.content_of-frame.ensures (received (goal.at.fields-preserved c).In_ok-receipt) (sums (goal.at.fields-preserved c).After-packet_in (received (goal.at.fields-preserved c).In_ok-receipt)) _ c.packet_in.ensures c.in_ok-packet_fault.ensures ∙ c.fields.invariant.1)

pub returns-then-tag_of-ne-FRAME : goal.returns-then-tag_of-ne-FRAME
returns-then-tag_of-ne-FRAME c = let l = c.fields in c.end_of.ensures ∙ none_left c.args.e c.args.s l.frames l.rest.now (λ h. c.if-tag_of-ne-FRAME.true (c.tag_of.ensures ∙ h)) ∙ l.invariant.1

pub returns-in_err-receipt : goal.returns-in_err-receipt
returns-in_err-receipt c =
    let p = err_from_is_err_and c.from_residual.result c.from_residual.ensures.1 in
    rw (p.1, p.2)
    (not-received c.args.e c.args.s c.fields.frames c.fields.rest.now c.content_of-frame.result.now (is-frame (goal.at.returns-in_err-receipt c).Else-tag_of-ne-FRAME) c.content_of-frame.ensures c.in_err-receipt.ensures ∙ c.fields.invariant.1)

pub returns-then-sum-byte : goal.returns-then-sum-byte
returns-then-sum-byte c =
    not-summed c.args.e c.args.s c.fields.frames c.fields.rest.now c.content_of-frame.result.now (is-frame (goal.at.returns-then-sum-byte c).Else-tag_of-ne-FRAME) c.content_of-frame.ensures (received (goal.at.returns-then-sum-byte c).In_ok-receipt)
    (λ h. c.if-sum-byte.true (c.bytes.invariant.sum ∙ rw (c.if-i-len.true, c.byte-len.ensures) h))
    ∙ c.fields.invariant.1

pub returns-in_err-packet_fault : goal.returns-in_err-packet_fault
returns-in_err-packet_fault c =
    let p = err_from_is_err_and c.from_residual-in_err-packet_fault.result c.from_residual-in_err-packet_fault.ensures.1 in
    rw (p.1, p.2)
    (not-meant c.args.e c.args.s c.fields.frames c.fields.rest.now c.content_of-frame.result.now (is-frame (goal.at.returns-in_err-packet_fault c).Else-tag_of-ne-FRAME) c.content_of-frame.ensures (received (goal.at.returns-in_err-packet_fault c).In_ok-receipt) (sums (goal.at.returns-in_err-packet_fault c).After-packet_in (received (goal.at.returns-in_err-packet_fault c).In_ok-receipt)) _ c.packet_in.ensures c.in_err-packet_fault.ensures ∙ c.fields.invariant.1)
