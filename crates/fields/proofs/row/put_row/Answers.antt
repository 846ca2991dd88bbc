-- After i turns the first i fields stand over the output, each behind the one before it, and are added up.
use Rattle.std.proofs.Common.{◌≡◌, ℕ, ◌+◌, ◌-◌, ◌≤◌, List, length, get_or, take, drop, sym, refl, ap, ◌∙◌, arith, length-drop, length-take}
use Rattle.octets.specs.Over.{over}
use Rattle.octets.proofs.Choosing.{above, refused-accepted}
use Rattle.octets.proofs.Outcomes.{same-value}
use Rattle.octets.proofs.Overlay.{length_over, put_rest}
use Rattle.packet.specs.Frame.{total}
use Rattle.packet.proofs.Frames.{total-append}
use Rattle.fields.specs.declared.row.Field.TheVariants.{Nothing}
use Rattle.fields.specs.Row.{field_bytes, packet_of}
use Rattle.fields.proofs.Rows.{sound-at, packet-more, packet-length, packet-prefix, next-ends, packet-all}
use Rattle.fields.proofs.Settled.{room-written}
use Rattle.fields.proofs.row.put_row.Goals as goal
use Rattle.fields.proofs.row.put_row.Goals.{After-put_field}

-- the next field has room, so it is written
room : (c : After-put_field) → length (field_bytes c.args.payload.now (get_or c.args.row c.loop-field.field-index Nothing)) ≤ length (take (length c.loop-field.out - c.loop-field.len) (drop c.loop-field.len c.loop-field.out))
room c =
    let ends = next-ends c.args.payload.now c.args.row c.loop-field.field-index (omega arith) in
    simp (length-take, length-drop) (omega arith)

pub loop-field-init : goal.loop-field-init
unfolding packet_of over total
loop-field-init c = record { len = refl; room = refl; out = refl; sum = refl }

pub slice_bounds-put_field-count : goal.slice_bounds-put_field-count
slice_bounds-put_field-count c = omega (arith, packet-prefix c.args.payload.now c.args.row c.loop-field.field-index)

pub slice_bounds-put_field-start : goal.slice_bounds-put_field-start
slice_bounds-put_field-start c =
    let starts : c.loop-field.len ≤ length c.loop-field.out = omega (arith, packet-prefix c.args.payload.now c.args.row c.loop-field.field-index) in
    starts

pub put_field-requires : goal.put_field-requires
put_field-requires c = sound-at _ _ c.loop-field.field-index c.requires.all_writable (omega arith)

pub returns-in_err-put-clause-out_after : goal.returns-in_err-put-clause-out_after
returns-in_err-put-clause-out_after c =
    absurd (refused-accepted (room-written _ _ c.in_err-put.ensures.out_after (room (goal.at.returns-in_err-put-clause-out_after c).After-put_field)))

pub overflow_add-len : goal.overflow_add-len
overflow_add-len c =
    let count = same-value (room-written _ _ c.in_ok-put.ensures.out_after (room (goal.at.overflow_add-len c).After-put_field)) in
    omega (arith, next-ends c.args.payload.now c.args.row c.loop-field.field-index (omega arith), count)

pub loop-field-preserved : goal.loop-field-preserved
loop-field-preserved c =
    let a = c.args in
    let p = a.payload.now in
    let i = c.loop-field.field-index in
    let bytes = field_bytes p (get_or a.row i Nothing) in
    let ends = next-ends p a.row i (omega arith) in
    let more = packet-length p a.row i (omega arith) in
    let count = same-value (room-written _ _ c.in_ok-put.ensures.out_after (room (goal.at.loop-field-preserved c).After-put_field)) in
    let here : c.loop-field.len + c.in_ok-put.put.len ≡ length (packet_of p (take (i + 1) a.row)) = omega (arith, count) in
    let wrote = put_rest _ a.out.now c.loop-field.invariant.out _ c.loop-field.len c.in_ok-put.ensures.out_after c.loop-field.invariant.len (omega arith) ∙ ap (λ (w : List ℕ). over w a.out.now) (sym (packet-more p a.row i (omega arith))) in
    let both : total (packet_of p (take (i + 1) a.row)) ≡ total (packet_of p (take i a.row)) + total bytes = rw (packet-more p a.row i (omega arith), total-append) in
    record { len = here; room = ap length wrote ∙ length_over _ _ (omega arith); out = wrote; sum = omega (arith, both, c.in_ok-put.ensures.sum_of, c.loop-field.invariant.sum) }

pub returns : goal.returns
returns c =
    let all = packet-all c.args.payload.now c.args.row c.loop-field.field-index (omega arith) in
    let inv = c.loop-field.invariant in
    record { out_after = rw (inv.out, inv.len, all) (above _ _ _ _ _ c.requires.row_in_bounds refl); sum_of = rw all at inv.sum }
