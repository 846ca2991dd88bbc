-- The rounded steps, divided, are what IEEE 754 gives, and so are the bits of the definition.
use Rattle.std.proofs.Common.{sym, ap, ◌∙◌, w32}
use lib.Ieee.{Float, binary32, div, of_int, of_bits}
use mir.ValLaws.{to_z-of_z}
use Rattle.numbers.proofs.Bits.{to-agrees, two-to-23}
use Rattle.numbers.proofs.fixed_point.FixedPoint.to_f32.Goals as goal

pub returns : goal.returns
returns c =
    let z = c.around_zero in
    ap (λ (x : Float). div binary32 x (of_bits binary32 0x4b00_0000)) (c.rounded.ensures ∙ ap (of_int binary32) (to_z-of_z w32 z.result (record { sfits = z.type_inv }) ∙ z.ensures))
    ∙ ap (div binary32 _) two-to-23
    ∙ sym (to-agrees _)
