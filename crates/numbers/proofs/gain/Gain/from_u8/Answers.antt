-- The product is what IEEE 754 gives, and so are the bits of the definition.
use Rattle.std.proofs.Common.{◌≡◌, true, pos, negsuc, sym, refl, ap, ◌∙◌, rules}
use lib.Ieee.{Float, fin, binary32, mul, neg, of_int, of_bits}
use Rattle.numbers.proofs.Bits.{gain-agrees}
use Rattle.numbers.proofs.gain.Gain.from_u8.Goals as goal

minus-half : neg (of_bits binary32 0x3f00_0000) ≡ fin true 1 (negsuc 0)
unfolding neg of_bits
minus-half = refl

pub returns : goal.returns
returns c =
    let k = c.args.val in
    ap (λ (h : Float). mul binary32 h (of_int binary32 (pos k))) minus-half ∙ sym (gain-agrees k (search rules))
