-- What a gain's byte comes to on each branch of `gain_byte`, and that it is what the Rust computes: (x.abs() * 2.) as u8.
use Rattle.std.proofs.Common.{◌≡◌, ℕ, zero, suc, ◌+◌, ◌-◌, ◌*◌, ◌/◌, ◌%◌, ◌^◌, ◌<◌, ◌≤◌, min, Bool, true, false, T, eqb, ◌⊎◌, pos, sym, refl, ap, ◌∙◌, subst, inl, inr, true≢false, le_trans, le_of_suc-le-suc, lt_of_le_of_lt, mod-lt, mul_assoc, div-lt_iff_lt-mul, eq-or-lt_of_le, le-div_iff_mul-le, mul-one, arith, lit<, lit≤, pow_pos, pow-add, eqb-true}
use native.Mathlib.Nat.{div-eq_of_lt, mul-div-mul_right}
use lib.Pow.{shr_mono, field}
use lib.Ieee.{Float, nan, inf, fin, binary32, up, down, size, round, mul, le, to_unsigned, of_fields, of_bits, to_bits, fits}
use lib.Ieee.Bits.{of_bits-to_bits}
use lib.Ieee.Fits.{down_pos}
use lib.Ieee.Nearest.{div_same}
use lib.Ieee.Exact.{HasValue}
use lib.Ieee.Order.{round_mono}
use lib.Ieee.Scale.{round_same}
use lib.Ieee.Positive.{above_of_le, le→cross}
use Rattle.octets.specs.Choice.{pick, if_eq}
use Rattle.octets.proofs.Choosing.{lt-or-le, same, other, either-eq}
use Rattle.numbers.specs.Pattern.{negative, exponent, fraction, magnitude, pattern_of}
use Rattle.numbers.specs.Gain.{bits_of_byte, gain_byte}
use Rattle.numbers.specs.Ieee.{absolute, byte_by}
use Rattle.numbers.proofs.Round.{round-to}
use Rattle.numbers.proofs.Magnitude.{mag_is, mag-ge, size_of, in_order}
use Rattle.numbers.proofs.Bits.{gain-bits, gain-agrees}
use Rattle.numbers.proofs.Agrees.{is_finite, is-infinite, is-nan}

-- ---- the thresholds, by their magnitudes
under-half : (p : ℕ) → p < 0x3f00_0000 → size_of p < 2 ^ 148
unfolding magnitude
under-half p h = lt_of_le_of_lt (in_order p 0x3eff_ffff (omega arith)) (lit< tt)

under-128 : (p : ℕ) → p < 0x4300_0000 → size_of p < 2 ^ 8 * 2 ^ 148
unfolding magnitude
under-128 p h = lt_of_le_of_lt (in_order p 0x42ff_ffff (omega arith)) (lit< tt)

from-128 : (p : ℕ) → 0x4300_0000 ≤ p → 2 ^ 156 ≤ size_of p
unfolding magnitude
from-128 p h = in_order 0x4300_0000 p h

capped : (q : ℕ) → 256 ≤ q → min q 255 ≡ 255
capped q h = omega arith

-- ---- the branches
module _ (bits : ℕ) where
  abbrev p : ℕ
  p = bits % 2 ^ 31

  abbrev twice : ℕ
  twice = size_of p / 2 ^ 148

  x-is : exponent bits ≡ p / 2 ^ 23
  x-is = omega arith

  t-is : fraction bits ≡ p % 2 ^ 23
  t-is = omega arith

  finite : p < 0x7f80_0000 → min twice 255 ≡ gain_byte bits
  unfolding gain_byte
  finite h = other _ _ _ _ _ (λ e. omega arith) (rw (x-is, t-is))

  pub at-nan : 0x7f80_0000 < p → 0 ≡ gain_byte bits
  unfolding gain_byte
  at-nan h = same _ _ _ _ _ (omega arith) (other _ _ _ _ _ (λ e. omega arith) refl)

  pub at_low : p < 0x3f00_0000 → 0 ≡ gain_byte bits
  at_low h = ap (λ (q : ℕ). min q 255) (sym (div-eq_of_lt (under-half p h))) ∙ finite (omega arith)

  pub at_high : p ≤ 0x7f80_0000 → 0x4300_0000 ≤ p → 255 ≡ gain_byte bits
  unfolding gain_byte
  at_high h k = elim (eq-or-lt_of_le h) [
    | inl e ↦ same _ _ _ _ _ (omega arith) (same _ _ _ _ _ (omega arith) refl)
    | inr l ↦ sym (capped twice (shr_mono 148 (from-128 p k))) ∙ finite l
  ]

  module _ (lo : 0x3f00_0000 ≤ p) (hi : p < 0x4300_0000) where
    shifted : (2 ^ 23 + p % 2 ^ 23) / 2 ^ (149 - p / 2 ^ 23) ≡ twice
    shifted =
        let x = p / 2 ^ 23 in
        let e : 149 - x + (x - 1) ≡ 148 = omega arith in
        let d : 2 ^ (149 - x) * 2 ^ (x - 1) ≡ 2 ^ 148 = sym (pow-add 2 (149 - x) (x - 1)) ∙ ap (λ (k : ℕ). 2 ^ k) e in
        sym (mul-div-mul_right (2 ^ 23 + p % 2 ^ 23) (2 ^ (149 - x)) (pow_pos (x - 1)))
        ∙ rw (d, ← mag_is (p % 2 ^ 23) x (omega arith))

    in-byte : twice < 2 ^ 8
    in-byte = (div-lt_iff_lt-mul {k = 2 ^ 148} {y = 2 ^ 8} (lit< tt)).1 (under-128 p hi)

    pub mid-fits : (2 ^ 23 + p % 2 ^ 23) / 2 ^ (149 - p / 2 ^ 23) < 2 ^ 8
    mid-fits = rw shifted in-byte

    pub at_mid : (2 ^ 23 + p % 2 ^ 23) / 2 ^ (149 - p / 2 ^ 23) ≡ gain_byte bits
    at_mid = rw shifted (uncapped twice in-byte ∙ finite (omega arith))
      where
        uncapped : (q : ℕ) → q < 2 ^ 8 → q ≡ min q 255
        uncapped q h = omega arith

-- ---- against IEEE 754

-- twice the size, rounded
doubled : (x : Float) (s : Bool) (n : ℕ) → HasValue x s n (2 ^ 149) → mul binary32 (absolute x) (fin false 1 (pos 1)) ≡ round binary32 false n (2 ^ 148)
unfolding mul
doubled nan s n v = absurd v
doubled (inf t) s n v = absurd v
doubled (fin t m e) s n v =
    round_same binary32 false (m * up e * 2) (down e * 1) n (2 ^ 148) (rw mul-one (down_pos e)) (lit< tt)
    (mul_assoc (m * up e) 2 (2 ^ 148) ∙ v.1 ∙ ap (λ (d : ℕ). n * d) (sym (mul-one (down e))))

-- its cut: where 256 is reached, whatever it is rounded to
cut : (y : Float) (a c : ℕ) → 0 < c → HasValue y false a c → to_unsigned 8 y ≡ min (a / c) 255
unfolding to_unsigned
cut nan a c C v = absurd v
cut (inf t) a c C v = absurd v
cut (fin true m e) a c C v = absurd (true≢false v.0)
cut (fin false m e) a c C v = ap (λ (q : ℕ). min q 255) (div_same (m * up e) (down e) a c (down_pos e) C v.1)

large : (y : Float) → T (le (fin false 1 (pos 8)) y) → to_unsigned 8 y ≡ 255
unfolding to_unsigned
large nan h = absurd (above_of_le (fin false 1 (pos 8)) nan tt h)
large (inf true) h = absurd (above_of_le (fin false 1 (pos 8)) (inf true) tt h)
large (inf false) h = refl
large (fin true m e) h = absurd (above_of_le (fin false 1 (pos 8)) (fin true m e) tt h)
large (fin false m e) h =
    capped (m * up e / down e)
    ((le-div_iff_mul-le (down_pos e)).1 (rw mul-one at (le→cross (fin false 1 (pos 8)) (fin false m e) tt (above_of_le (fin false 1 (pos 8)) (fin false m e) tt h) h)))

at-256 : round binary32 false 256 1 ≡ fin false 1 (pos 8)
unfolding round
at-256 = refl

rounded : (n q k : ℕ) → q < 2 ^ 24 → n ≡ q * 2 ^ k → (k < 253) ⊎ (2 ^ 156 ≤ n) → to_unsigned 8 (round binary32 false n (2 ^ 148)) ≡ min (n / 2 ^ 148) 255
rounded n q k Q is w = elim w [
  | inl h ↦ cut (round binary32 false n (2 ^ 148)) n (2 ^ 148) (lit< tt) (round-to binary32 148 1 refl false n (2 ^ 148) n q k (lit< tt) Q (omega arith) is refl)
  | inr h ↦
      large (round binary32 false n (2 ^ 148)) (subst (λ (x : Float). T (le x (round binary32 false n (2 ^ 148)))) at-256 (round_mono binary32 256 1 n (2 ^ 148) (lit< tt) (lit< tt) (rw mul-one h)))
      ∙ sym (capped (n / 2 ^ 148) (shr_mono 148 h))
]

fields-agree : (s : Bool) (x t : ℕ) → x < 255 → t < 2 ^ 23 → byte_by (of_fields binary32 s x t) ≡ min (magnitude x t / 2 ^ 148) 255
fields-agree s x t X H =
    let f = is_finite s x t X H in
    rw (doubled (of_fields binary32 s x t) s (magnitude x t) f.value) (rounded (magnitude x t) f.head (x - 1) f.few f.size_is far)
  where
    far : (x - 1 < 253) ⊎ (2 ^ 156 ≤ magnitude x t)
    far = elim (lt-or-le x 254) [ inl l ↦ inl (omega arith) | inr l ↦ inr (le_trans (lit≤ tt) (mag-ge t x 253 l)) ]

infinity-agrees : (s : Bool) → byte_by (inf s) ≡ 255
unfolding mul to_unsigned
infinity-agrees s = refl

nan-agrees : byte_by nan ≡ 0
unfolding mul to_unsigned
nan-agrees = refl

pub byte-agrees : (bits : ℕ) → gain_byte bits ≡ byte_by (of_bits binary32 bits)
unfolding gain_byte of_bits
byte-agrees bits =
    let s = negative bits in
    let x = exponent bits in
    let t = fraction bits in
    rw (field bits 8 23) (sym (go s x t (mod-lt (bits / 2 ^ 23) (lit< tt)) (mod-lt bits (lit< tt))))
  where
    go : (s : Bool) (x t : ℕ) → x < 256 → t < 2 ^ 23 → byte_by (of_fields binary32 s x t) ≡ if_eq x 255 (if_eq t 0 255 0) (min (magnitude x t / 2 ^ 148) 255)
    go s x t X H =
        either-eq (λ (b : ℕ). byte_by (of_fields binary32 s x t) ≡ b) x 255 (if_eq t 0 255 0) (min (magnitude x t / 2 ^ 148) 255)
        (λ e. rw e
        (either-eq (λ (b : ℕ). byte_by (of_fields binary32 s 255 t) ≡ b) t 0 255 0
        (λ z. rw (is-infinite s t z) (infinity-agrees s))
        (λ n. rw (is-nan s t n) nan-agrees)))
        (λ n. fields-agree s x t (omega arith) H)

-- of a float, NaN included
pub to-byte-agrees : (x : Float) → T (fits binary32 x) → gain_byte (to_bits binary32 x) ≡ byte_by x
to-byte-agrees x h = byte-agrees (to_bits binary32 x) ∙ ap byte_by (of_bits-to_bits binary32 x h)

-- ---- a byte's gain gives the byte back: one test, computed at each of the 256
abbrev every : (ℕ → Bool) → ℕ → Bool
every f zero = true
every f (suc n) = pick (f n) (every f n) false

of-every : (f : ℕ → Bool) (n k : ℕ) → every f n ≡ true → k < n → f k ≡ true
of-every f zero k e h = absurd (omega arith)
of-every f (suc n) k e h = elim (eq-or-lt_of_le (le_of_suc-le-suc h)) [ inl same ↦ rw same (first (f n) (every f n) e).0 | inr less ↦ of-every f n k (first (f n) (every f n) e).1 less ]
  where
    first : (a b : Bool) → pick a b false ≡ true → (a ≡ true) × (b ≡ true)
    first true b e = (refl, e)
    first false b e = absurd (true≢false (sym e))

all_back : every (λ k. eqb (gain_byte (bits_of_byte k)) k) 256 ≡ true
unfolding gain_byte magnitude pattern_of if_eq size
all_back = refl

pub gain-back : (k : ℕ) → k < 256 → gain_byte (to_bits binary32 (of_bits binary32 (bits_of_byte k))) ≡ k
gain-back k h = rw (gain-agrees k h, gain-bits k h) (eqb-true _ _ (of-every (λ k. eqb (gain_byte (bits_of_byte k)) k) 256 k all_back h))
