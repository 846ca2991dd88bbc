-- Only the NaN differs from itself.
use Rattle.std.proofs.Common.{◌≡◌, false, not, T, sym, refl, ap, ◌∙◌, subst}
use lib.Ieee.{Float, nan, inf, fin, binary32, to_bits, is_nan, ne}
use lib.Ieee.Compare.{differs_from_itself}
use Rattle.numbers.proofs.float.to_bits.Goals as goal

at-nan : to_bits binary32 nan ≡ 0x7fc0_0000
unfolding to_bits
at-nan = refl

no_nan : (x : Float) → ne x x ≡ false → T (not (is_nan x))
unfolding is_nan ne
no_nan nan e = subst T e tt
no_nan (inf s) e = tt
no_nan (fin s m k) e = tt

pub returns-then-x : goal.returns-then-x
returns-then-x c = sym (ap (to_bits binary32) (differs_from_itself c.args.x (subst T (sym c.if-x.true) tt)) ∙ at-nan)

pub float_to_bits-result : goal.float_to_bits-result
float_to_bits-result c = no_nan c.args.x c.if-x.false
