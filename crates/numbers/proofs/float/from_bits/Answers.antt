-- A pattern above the infinity's is a NaN's, and 0 / 0 is the NaN.
use Rattle.std.proofs.Common.{◌≡◌, ℕ, ◌%◌, ◌^◌, Bool, not, T, ltb, sym, refl, ◌∙◌, subst, lt→ltb}
use lib.Arith.{le→nltb}
use lib.Ieee.{Float, nan, inf, fin, binary32, div, of_bits, is_nan, nan_bits}
use lib.Ieee.Bits.{nan_bits_is, nan_bits_above}
use Rattle.numbers.proofs.float.from_bits.Goals as goal

no_number : div binary32 (of_bits binary32 0) (of_bits binary32 0) ≡ nan
unfolding div of_bits
no_number = refl

is-nan : (x : Float) → T (is_nan x) → x ≡ nan
unfolding is_nan
is-nan nan t = refl
is-nan (inf s) t = absurd t
is-nan (fin s m e) t = absurd t

tested : (b : ℕ) → nan_bits binary32 b ≡ ltb 0x7f80_0000 (b % 2 ^ 31)
tested b = nan_bits_above binary32 b

pub returns-then-bits-gt2139095040 : goal.returns-then-bits-gt2139095040
returns-then-bits-gt2139095040 c =
    let b = c.args.bits in
    no_number ∙ sym (is-nan (of_bits binary32 b) (subst T (sym (tested b) ∙ nan_bits_is binary32 b) (lt→ltb 0x7f80_0000 (b % 2 ^ 31) c.if-bits-gt2139095040.true)))

pub float_from_bits-result : goal.float_from_bits-result
float_from_bits-result c =
    let b = c.args.bits in
    subst (λ (t : Bool). T (not t)) (sym (tested b)) (le→nltb 0x7f80_0000 (b % 2 ^ 31) c.if-bits-gt2139095040.false)
