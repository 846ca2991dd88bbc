-- The total is the length of the fields passed by, capped.
use Rattle.std.proofs.Common.{ℕ, min, List, length, refl, ap, ◌∙◌, arith}
use Rattle.fields.specs.Row.{packet_of}
use Rattle.fields.proofs.Rows.{sound-at, packet-length, packet-all}
use Rattle.fields.proofs.row.row_len.Goals as goal

pub loop-field-init : goal.loop-field-init
unfolding packet_of
loop-field-init c = refl

pub field_len-requires : goal.field_len-requires
field_len-requires c = sound-at _ _ c.loop-field.field-index c.requires (omega arith)

pub loop-field-preserved : goal.loop-field-preserved
loop-field-preserved c =
    rw (packet-length c.args.payload.now c.args.row c.loop-field.field-index (omega arith)) (omega (arith, c.capped-total.ensures, c.field_len.ensures, c.loop-field.invariant))

pub returns : goal.returns
returns c = c.loop-field.invariant ∙ ap (λ (l : List ℕ). min 255 (length l)) (packet-all _ _ c.loop-field.field-index (omega arith))
