-- The pattern that a code's float is made of is the float's pattern.
use mathlib.Core.Path.{ap, ◌∙◌}
use lib.Ieee.{binary32, to_bits}
use Rattle.numbers.proofs.Bits.{to-agrees, code-bits}
use Rattle.exports.proofs.wovenpike_to_f32.Goals as goal

pub returns : goal.returns
returns c =
    let code = c.args.code in
    rw (c.to_bits.ensures, c.to_f32.ensures, c.from_u32.ensures) (ap (to_bits binary32) (to-agrees code) ∙ code-bits code)
