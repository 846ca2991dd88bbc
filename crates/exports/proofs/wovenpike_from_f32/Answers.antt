-- A pattern and what is left of it as a float, one NaN for all, have one code.
use mathlib.Core.Path.{sym, ◌∙◌}
use lib.Ieee.{binary32, of_bits}
use lib.Ieee.Bits.{of_bits-fits}
use Rattle.numbers.proofs.Agrees.{from-agrees, pattern-agrees}
use Rattle.exports.proofs.wovenpike_from_f32.Goals as goal

pub returns : goal.returns
returns c =
    let bits = c.args.bits in
    rw (c.to_u32.ensures, c.from_f32.ensures, c.from_bits.ensures)
    (from-agrees (of_bits binary32 bits) (of_bits-fits binary32 bits) ∙ sym (pattern-agrees bits))
