-- The 5.23 format and the two functions. What to_f32 returns of a code of 28 bits is its meaning rounded once. A float's code means
-- the float cut down to a step, where that is in the range; elsewhere the code's low 28 bits are that number's, wrapped, and it may
-- have more bits than these.
use Rattle.std.proofs.Common.{◌≡◌, ℕ, zero, suc, ◌+◌, ◌-◌, ◌*◌, ◌/◌, ◌%◌, ◌^◌, ◌<◌, ◌≤◌, Bool, true, false, ℤ, pos, negsuc, neg_ℤ, sym, refl, ap, ◌∙◌, subst, inl, inr, le_trans, lt_of_lt_of_le, lt_of_le_of_lt, le_of_lt, mod-eq_of_lt, div-lt_iff_lt-mul, arith, lit<, lit≤}
use lib.Signed.{mag}
use lib.Pow.{shr_mono}
use lib.Ieee.{Float, fin, binary32, round, div, of_int, of_bits, to_bits}
use lib.Ieee.Fits.{round-fits, div-fits}
use lib.Ieee.Bits.{of_bits-to_bits}
use lib.Ieee.Exact.{HasValue}
use Rattle.octets.specs.Choice.{if_lt}
use Rattle.octets.proofs.Choosing.{lt-or-le, below, above, either_lt}
use Rattle.numbers.specs.Pattern.{negative, exponent, fraction, magnitude, round_to}
use Rattle.numbers.specs.FixedPoint.{low_bits, flip27, encoded, cleared, code_of, around_zero, bits_of_code}
use Rattle.numbers.specs.Format.{meaning, as_float, cut_down, Unheld}
use Rattle.numbers.proofs.Round.{round-below}
use Rattle.numbers.proofs.Magnitude.{size_of, in-order-lt}
use Rattle.numbers.proofs.Sum.{ceil}
use Rattle.numbers.proofs.Steps.{Low, low_bits-lt, tiny, not-tiny, at-tiny, at-plus, minus-sum, at_least, at_most}
use Rattle.numbers.proofs.Bits.{pattern-is, steps-val, to-agrees}

-- ---- to_f32
around-is : (c : ℕ) → c < 2 ^ 28 → around_zero c ≡ meaning c
unfolding around_zero
around-is c h = elim (lt-or-le c (2 ^ 27)) [
  | inl l ↦ let e : (flip27 c + (2 ^ 32 - 2 ^ 27)) % 2 ^ 32 ≡ c = omega arith in rw e (sym (below c (2 ^ 31) _ _ _ (omega arith) refl) ∙ below c (2 ^ 27) _ _ _ l refl)
  | inr l ↦
      let d = (flip27 c + (2 ^ 32 - 2 ^ 27)) % 2 ^ 32 in
      let bit : c / 2 ^ 27 % 2 ≡ 1 = omega arith in
      let is : d ≡ c + (2 ^ 32 - 2 ^ 28) = rw bit (omega arith) in
      let e : 2 ^ 32 - suc d ≡ 2 ^ 28 - suc c = omega arith in
      sym (above d (2 ^ 31) _ _ _ (omega arith) refl) ∙ above c (2 ^ 27) _ _ _ l (ap negsuc e)
]

-- two floats of the format with one value
one_value : (x y : Float) (s : Bool) (n : ℕ) → of_bits binary32 (to_bits binary32 x) ≡ x → of_bits binary32 (to_bits binary32 y) ≡ y → HasValue x s n (2 ^ 23) → HasValue y s n (2 ^ 23) → x ≡ y
one_value x y s n p q v w = sym p ∙ ap (of_bits binary32) (pattern-is 23 102 refl x s n v ∙ sym (pattern-is 23 102 refl y s n w)) ∙ q

rounded-once : (s : Bool) (n : ℕ) → n < 2 ^ 32 → div binary32 (round binary32 s n 1) (fin false 1 (pos 23)) ≡ round binary32 s n (2 ^ 23)
rounded-once s n h =
    one_value _ _ s (round_to 24 n) (of_bits-to_bits binary32 _ (div-fits binary32 (round binary32 s n 1) (fin false 1 (pos 23)))) (of_bits-to_bits binary32 _ (round-fits binary32 s n (2 ^ 23)))
    (steps-val s n h) (round-below binary32 23 126 refl s n 32 h (lit< tt) (lit< tt))

steps-once : (z : ℤ) → mag z < 2 ^ 31 → div binary32 (of_int binary32 z) (fin false 1 (pos 23)) ≡ as_float z
unfolding of_int
steps-once (pos n) h = rounded-once false n (omega arith)
steps-once (negsuc n) h = rounded-once true (suc n) (omega arith)

meaning-in : (c : ℕ) → c < 2 ^ 28 → mag (meaning c) < 2 ^ 27
meaning-in c h = either_lt (λ (z : ℤ). mag z < 2 ^ 27) c (2 ^ 27) (pos c) (negsuc (2 ^ 28 - suc c)) (λ l. l) (λ l. omega arith)

pub decoded : (c : ℕ) → c < 2 ^ 28 → of_bits binary32 (bits_of_code c) ≡ as_float (meaning c)
decoded c h =
    let m = meaning-in c h in
    to-agrees c ∙ ap (λ (z : ℤ). div binary32 (of_int binary32 z) (fin false 1 (pos 23))) (around-is c h) ∙ steps-once (meaning c) (omega arith)

-- ---- from_f32

-- the number that 28 bits stand for
back : (z : ℤ) → mag z < 2 ^ 27 → meaning (low_bits 28 z) ≡ z
back (pos n) h = let e : n % 2 ^ 28 ≡ n = omega arith in rw e (sym (below n (2 ^ 27) _ _ _ h refl))
back (negsuc n) h =
    let w = 2 ^ 28 - 1 - n % 2 ^ 28 in
    let e : 2 ^ 28 - suc w ≡ n = omega arith in
    sym (above w (2 ^ 27) _ _ _ (omega arith) (sym (ap negsuc e)))

-- the last steps on a word w, seen through 28 bits
code-low : (w : ℕ) → cleared (flip27 w) % 2 ^ 28 ≡ (w + 2 ^ 27) % 2 ^ 28
code-low w = either_lt (λ (v : ℕ). v % 2 ^ 28 ≡ (w + 2 ^ 27) % 2 ^ 28) (flip27 w) (15 * 2 ^ 28) (flip27 w) (flip27 w % 2 ^ 28) (λ l. omega arith) (λ l. omega arith)

code-small : (w : ℕ) → w < 2 ^ 28 → cleared (flip27 w) < 2 ^ 28
code-small w h = subst (λ (v : ℕ). v < 2 ^ 28) (below (flip27 w) (15 * 2 ^ 28) _ _ _ (omega arith) refl) (omega arith)

-- a word w codes z: through 28 bits they agree, and in the range w has no more bits
record Codes (w : ℕ) (z : ℤ) : Type 0 where
  low : (w + 2 ^ 27) % 2 ^ 28 ≡ low_bits 28 z
  small : mag z < 2 ^ 27 → w < 2 ^ 28

codes-plus : (q w : ℕ) → w ≡ (q + 2 ^ 27) % 2 ^ 32 → Codes w (pos q)
codes-plus q w e = record { low = omega arith; small = λ r. omega arith }

codes-minus : (u w : ℕ) → 0 < u → w < 2 ^ 32 → (w + u % 2 ^ 32) % 2 ^ 32 ≡ 2 ^ 27 → Codes w (neg_ℤ (pos u))
codes-minus zero w p h e = absurd (omega arith)
codes-minus (suc m) w p h e = record { low = omega arith; small = λ r. omega arith }

-- the end of the i64 range, by the pattern
below_end : (p : ℕ) → size_of p < 2 ^ 189 → p < 0x5380_0000
unfolding magnitude
below_end p h = in-order-lt p 0x5380_0000 h

at-end : (p : ℕ) → size_of p ≤ 2 ^ 189 → p < 0x5380_0001
unfolding magnitude
at-end p h = in-order-lt p 0x5380_0001 (lt_of_le_of_lt h (lit< tt))

from_end : (p : ℕ) → 2 ^ 189 ≤ size_of p → 0x537f_ffff < p
unfolding magnitude
from_end p h = in-order-lt 0x537f_ffff p (lt_of_lt_of_le (lit< tt) h)

past_end_lem : (p : ℕ) → 2 ^ 189 < size_of p → 0x5380_0000 < p
unfolding magnitude
past_end_lem p h = in-order-lt 0x5380_0000 p h

some-steps : {n : ℕ} → 2 ^ 99 < n → 0 < ceil n
some-steps {n} h = shr_mono 126 (grow (2 ^ 126 - 1) (le_trans (lit≤ tt) (le_of_lt h)))
  where
    grow : (p : ℕ) → 1 ≤ n → 1 + p ≤ n + p
    grow p k = omega arith

-- of a pattern p without its sign
coded : (s : Bool) (p : ℕ) → Unheld s (size_of p) → Codes (Low s p) (cut_down s (size_of p))
coded false p h = codes-plus (size_of p / 2 ^ 126) (Low false p) (sym (at-plus false p refl (below_end p h)))
coded true p h = elim (lt-or-le 0x2680_0000 p) [
  | inl l ↦
      subst (Codes (Low true p)) (below (2 ^ 99) (size_of p) _ (pos 0) _ (not-tiny p l) refl)
      (codes-minus (ceil (size_of p)) (Low true p) (some-steps (not-tiny p l)) (low_bits-lt (encoded true (p / 2 ^ 23) (p % 2 ^ 23))) (minus-sum p l (omega (arith, at-end p h))))
  | inr l ↦ subst (Codes (Low true p)) (above (2 ^ 99) (size_of p) (neg_ℤ (pos (ceil (size_of p)))) _ _ (tiny p l) refl) (codes-plus 0 (Low true p) (sym (at-tiny true p refl l)))
]

-- in the range nothing is held
unheld : (s : Bool) (n : ℕ) → mag (cut_down s n) < 2 ^ 27 → Unheld s n
unheld false n h = lt_of_lt_of_le ((div-lt_iff_lt-mul {k = 2 ^ 126} {y = 2 ^ 27} (lit< tt)).0 h) (lit≤ tt)
unheld true n h = elim (lt-or-le (2 ^ 189) n) [
  | inl l ↦ absurd (far (ceil n) (subst (λ (z : ℤ). mag z < 2 ^ 27) (sym (below (2 ^ 99) n (neg_ℤ (pos (ceil n))) (pos 0) _ (lt_of_lt_of_le (lit< tt) (le_of_lt l)) refl)) h) (shr_mono 126 (grow (2 ^ 126 - 1) (le_of_lt l))))
  | inr l ↦ l
]
  where
    grow : (p : ℕ) {a b : ℕ} → a ≤ b → a + p ≤ b + p
    grow p k = omega arith

    far : (u : ℕ) → mag (neg_ℤ (pos u)) < 2 ^ 27 → 2 ^ 63 ≤ u → ⊥
    far zero h k = omega arith
    far (suc u) h k = omega arith

-- ---- of a whole pattern, with its sign
module _ (bits : ℕ) where
  abbrev s : Bool
  s = negative bits

  abbrev p : ℕ
  p = bits % 2 ^ 31

  abbrev n : ℕ
  n = magnitude (exponent bits) (fraction bits)

  x-is : exponent bits ≡ p / 2 ^ 23
  x-is = omega arith

  t-is : fraction bits ≡ p % 2 ^ 23
  t-is = omega arith

  word-is : code_of bits ≡ cleared (flip27 (Low s p))
  unfolding code_of
  word-is = rw (x-is, t-is)

  codes : Unheld s n → Codes (Low s p) (cut_down s n)
  codes h = rw (x-is, t-is) (coded s p (rw (x-is, t-is) at h))

  -- the code's low 28 bits are those of the float cut down to a step: it is wrapped
  pub wrapped : Unheld s n → code_of bits % 2 ^ 28 ≡ low_bits 28 (cut_down s n)
  wrapped h = rw word-is (code-low (Low s p) ∙ (codes h).low)

  -- and where that is in the range, the code means it
  pub in-range : mag (cut_down s n) < 2 ^ 27 → (code_of bits < 2 ^ 28) × (meaning (code_of bits) ≡ cut_down s n)
  in-range h =
      let u = unheld s n h in
      let c : code_of bits < 2 ^ 28 = rw word-is (code-small (Low s p) ((codes u).small h)) in
      (c, ap meaning (sym (mod-eq_of_lt c) ∙ wrapped u) ∙ back (cut_down s n) h)

  -- what is held, the infinities with it, codes an end of the range
  pub held-above : s ≡ false → p ≤ 0x7f80_0000 → 2 ^ 189 ≤ n → code_of bits ≡ 0x07ff_ffff
  unfolding if_lt
  held-above e f h = word-is ∙ rw (← at_most s p e f (from_end p (rw (x-is, t-is) at h))) refl

  pub held_below : s ≡ true → p ≤ 0x7f80_0000 → 2 ^ 189 < n → code_of bits ≡ 0x0800_0000
  unfolding if_lt
  held_below e f h = word-is ∙ rw (← at_least s p e f (past_end_lem p (rw (x-is, t-is) at h))) refl
