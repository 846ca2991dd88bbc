-- The fields of the pattern without its sign are the pattern's; then bit 27 is flipped and four ones are cleared.
use Rattle.std.proofs.Common.{◌≡◌, ℕ, ◌/◌, ◌%◌, ◌^◌, Bool, leb, ap, ◌∙◌}
use lib.Bits.{bit_xor}
use lib.Pow.{field, mod-mod-pow}
use Rattle.octets.proofs.Choosing.{below, above}
use Rattle.numbers.specs.Pattern.{exponent, fraction}
use Rattle.numbers.specs.FixedPoint.{code_of, low_bits, encoded, flip27}
use Rattle.numbers.proofs.Words.{xor-flip}
use Rattle.numbers.proofs.fixed_point.code_of.Goals as goal

fields : (b : ℕ) (s : Bool) → low_bits 32 (encoded s (b % 2 ^ 31 / 2 ^ 23) (b % 2 ^ 31 % 2 ^ 23)) ≡ low_bits 32 (encoded s (exponent b) (fraction b))
fields b s = rw (field b 8 23, mod-mod-pow b 8 23)

flipped : (b low : ℕ) → low ≡ low_bits 32 (encoded (leb (2 ^ 31) b) (b % 2 ^ 31 / 2 ^ 23) (b % 2 ^ 31 % 2 ^ 23)) → bit_xor low 0x0800_0000 ≡ flip27 (low_bits 32 (encoded (leb (2 ^ 31) b) (exponent b) (fraction b)))
flipped b low e = xor-flip low ∙ ap flip27 (e ∙ fields b (leb (2 ^ 31) b))

pub returns-then-code-lt4026531840 : goal.returns-then-code-lt4026531840
unfolding code_of
returns-then-code-lt4026531840 c = let e = flipped c.args.bits _ c.encoded_low-low.ensures in below _ _ _ _ _ (rw e at c.if-code-lt4026531840.true) e

pub returns : goal.returns
unfolding code_of
returns c =
    let e = flipped c.args.bits _ c.encoded_low-low.ensures in
    above _ _ _ _ _ (rw e at c.if-code-lt4026531840.false) (ap (λ (w : ℕ). w % 2 ^ 28) e)
