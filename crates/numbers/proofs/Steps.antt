-- The shifts of `steps_down` and `steps_up`, and what `encoded_low` returns on each of its branches.
use Rattle.std.proofs.Common.{◌≡◌, ℕ, ◌+◌, ◌-◌, ◌*◌, ◌/◌, ◌%◌, ◌^◌, ◌<◌, ◌≤◌, Bool, true, false, ℤ, pos, negsuc, sym, refl, ap, ◌∙◌, inl, inr, le_trans, lt_of_lt_of_le, le_of_lt, mod-lt, mod-eq_of_lt, mul_assoc, mul_comm, add-mul, eq-or-lt_of_le, one-mul, mul-div_cancel, arith, lit<, lit≤, pow_pos, pow-add, shl_exact}
use native.Mathlib.Nat.{div-eq_of_lt, mul-div-mul_right, div-div-eq-div-mul}
use lib.Arith.{digits_div}
use lib.Pow.{pow-lt, shr_mono}
use Rattle.octets.proofs.Choosing.{same, other}
use Rattle.numbers.specs.Pattern.{magnitude}
use Rattle.numbers.specs.FixedPoint.{cut_sum, held, range_end, encoded, low_bits}
use Rattle.numbers.proofs.Magnitude.{led, mag_is, mag-lt, mag-ge, size_of, digits_lt, in_order}
use Rattle.numbers.proofs.Sum.{ceil, ceil-one, ceil-whole, minus-tiny, minus-held, minus-low, plus-held, plus-low}

-- ---- shifts

-- 1 << d, in a word
pub one_shl : (d : ℕ) → d < 64 → 1 * 2 ^ d % 2 ^ 64 ≡ 2 ^ d
one_shl d h = rw one-mul (mod-eq_of_lt (pow-lt {i = d} {j = 64} h))

module _ (x t : ℕ) (H : t < 2 ^ 23) where
  pub down-low : x < 103 → 0 ≡ magnitude x t / 2 ^ 126
  down-low h = sym (div-eq_of_lt (mag-lt t x 102 H (le_of_lt h)))

  pub up-low : 0 < x → x < 103 → 1 ≡ ceil (magnitude x t)
  up-low p h = sym (ceil-one (2 ^ 126) (magnitude x t) (lt_of_lt_of_le (lit< tt) (mag-ge t x 0 p)) (le_of_lt (mag-lt t x 102 H (le_of_lt h))))

  -- 2 ^ 126 is 2 ^ (127 - x) * 2 ^ (x - 1)
  parts : 103 ≤ x → x < 127 → 2 ^ (127 - x) * 2 ^ (x - 1) ≡ 2 ^ 126
  parts l h = let e : 127 - x + (x - 1) ≡ 126 = omega arith in sym (pow-add 2 (127 - x) (x - 1)) ∙ ap (λ (k : ℕ). 2 ^ k) e

  pub down-mid : 103 ≤ x → x < 127 → (2 ^ 23 + t) / 2 ^ (127 - x) ≡ magnitude x t / 2 ^ 126
  down-mid l h =
      sym (mul-div-mul_right (2 ^ 23 + t) (2 ^ (127 - x)) (pow_pos (x - 1)))
      ∙ rw (parts l h, ← mag_is t x (omega arith))

  pub up-mid : 103 ≤ x → x < 127 → (2 ^ 23 + t + (1 * 2 ^ (127 - x) % 2 ^ 64 - 1)) / 2 ^ (127 - x) ≡ ceil (magnitude x t)
  up-mid l h =
      rw (one_shl (127 - x) (omega arith))
      (sym (ceil-shift (2 ^ 23 + t) (2 ^ (127 - x)) (2 ^ (x - 1)) (pow_pos (127 - x)) (pow_pos (x - 1)))
      ∙ rw (parts l h, ← mag_is t x (omega arith)))
    where
      ceil-shift : (q D K : ℕ) → 0 < D → 0 < K → (q * K + (D * K - 1)) / (D * K) ≡ (q + (D - 1)) / D
      ceil-shift q D K dp kp =
          let e : D - 1 + 1 ≡ D = omega arith in
          let whole : (D - 1) * K + K ≡ D * K = sym (ap (λ (d : ℕ). d * K) (sym e) ∙ rw (add-mul, one-mul)) in
          let sum : q * K + (D * K - 1) ≡ (q + (D - 1)) * K + (K - 1) = rw add-mul (omega arith) in
          rw (sum, mul_comm D K, ← div-div-eq-div-mul, digits_div (q + (D - 1)) {m = K} {r = K - 1} (omega arith))

  -- the magnitude is a whole number of steps
  whole : 127 ≤ x → magnitude x t ≡ (2 ^ 23 + t) * 2 ^ (x - 127) * 2 ^ 126
  whole h =
      let e : x - 1 ≡ x - 127 + 126 = omega arith in
      mag_is t x (omega arith) ∙ rw (e, pow-add, mul_assoc)

  kept : 127 ≤ x → x < 168 → (2 ^ 23 + t) * 2 ^ (x - 127) % 2 ^ 64 ≡ (2 ^ 23 + t) * 2 ^ (x - 127)
  kept l h = shl_exact 24 (x - 127) 64 (led t H) (omega arith)

  pub down-high : 127 ≤ x → x < 168 → (2 ^ 23 + t) * 2 ^ (x - 127) % 2 ^ 64 ≡ magnitude x t / 2 ^ 126
  down-high l h = kept l h ∙ sym (rw (whole l) (mul-div_cancel ((2 ^ 23 + t) * 2 ^ (x - 127)) (lit< tt)))

  pub up-high : 127 ≤ x → x < 168 → (2 ^ 23 + t) * 2 ^ (x - 127) % 2 ^ 64 ≡ ceil (magnitude x t)
  up-high l h = kept l h ∙ sym (rw (whole l) (ceil-whole ((2 ^ 23 + t) * 2 ^ (x - 127))))

-- ---- `encoded` by the exponent
module _ (s : Bool) (x t : ℕ) where
  pub finite : x < 255 → encoded s x t ≡ held (cut_sum s (magnitude x t))
  unfolding encoded
  finite h = sym (other _ _ _ _ _ (λ e. omega arith) refl)

  pub infinite : x ≡ 255 → t ≡ 0 → encoded s x t ≡ range_end s
  unfolding encoded
  infinite e z = sym (same _ _ _ _ _ e (same _ _ _ _ _ z refl))

  pub no_number : x ≡ 255 → (t ≡ 0 → ⊥) → encoded s x t ≡ pos 0
  unfolding encoded
  no_number e n = sym (same _ _ _ _ _ e (other _ _ _ _ _ n refl))

-- ---- the branches
pub low_bits-lt : (z : ℤ) → low_bits 32 z < 2 ^ 32
low_bits-lt (pos n) = mod-lt n (lit< tt)
low_bits-lt (negsuc n) = omega arith

-- of a pattern p without its sign
module _ (s : Bool) (p : ℕ) where
  abbrev pub Low : ℕ
  Low = low_bits 32 (encoded s (p / 2 ^ 23) (p % 2 ^ 23))

  finite-low : p < 0x7f80_0000 → Low ≡ low_bits 32 (held (cut_sum s (size_of p)))
  finite-low h = ap (low_bits 32) (finite s (p / 2 ^ 23) (p % 2 ^ 23) (omega arith))

  pub at-nan : p < 2 ^ 31 → 0x7f80_0000 < p → 0 ≡ Low
  at-nan h k = sym (ap (low_bits 32) (no_number s (p / 2 ^ 23) (p % 2 ^ 23) (omega arith) (λ e. omega arith)))

  at-end : (r : ℕ) → low_bits 32 (range_end s) ≡ r → (p < 0x7f80_0000 → Low ≡ r) → p ≤ 0x7f80_0000 → Low ≡ r
  at-end r e f h = elim (eq-or-lt_of_le h) [
    | inl i ↦ ap (low_bits 32) (infinite s (p / 2 ^ 23) (p % 2 ^ 23) (omega arith) (omega arith)) ∙ e
    | inr l ↦ f l
  ]

-- the two patterns at which a branch ends, by their magnitudes
pub tiny : (p : ℕ) → p ≤ 0x2680_0000 → size_of p ≤ 2 ^ 99
unfolding magnitude
tiny p h = in_order p 0x2680_0000 h

pub not-tiny : (p : ℕ) → 0x2680_0000 < p → 2 ^ 99 < size_of p
unfolding magnitude
not-tiny p h = lt_of_lt_of_le (lit< tt) (in_order 0x2680_0001 p h)

pub in-range : (p : ℕ) → p ≤ 0x5380_0000 → size_of p ≤ 2 ^ 189
unfolding magnitude
in-range p h = in_order p 0x5380_0000 h

past-range : (p : ℕ) → 0x5380_0000 < p → 2 ^ 189 + 2 ^ 153 ≤ size_of p
unfolding magnitude
past-range p h = le_trans (lit≤ tt) (in_order 0x5380_0001 p h)

pub ceil-le : (p : ℕ) → p ≤ 0x5380_0000 → ceil (size_of p) ≤ 2 ^ 63
ceil-le p h = shr_mono 126 (grow (2 ^ 126 - 1) (in-range p h))
  where
    grow : (p : ℕ) {a b : ℕ} → a ≤ b → a + p ≤ b + p
    grow p h = omega arith

pub at-tiny : (s : Bool) (p : ℕ) → s ≡ true → p ≤ 0x2680_0000 → 2 ^ 27 ≡ Low s p
at-tiny s p e h = rw e (sym (finite-low true p (omega arith) ∙ ap (λ (z : ℤ). low_bits 32 (held z)) (minus-tiny (size_of p) (tiny p h))))

pub at_least : (s : Bool) (p : ℕ) → s ≡ true → p ≤ 0x7f80_0000 → 0x5380_0000 < p → 0 ≡ Low s p
at_least s p e h k = rw e (sym (at-end true p 0 refl (λ l. finite-low true p l ∙ minus-held (size_of p) (past-range p k)) h))

pub at_most : (s : Bool) (p : ℕ) → s ≡ false → p ≤ 0x7f80_0000 → 0x5380_0000 ≤ p → 2 ^ 32 - 1 ≡ Low s p
at_most s p e h k = rw e (sym (at-end false p (2 ^ 32 - 1) refl (λ l. finite-low false p l ∙ plus-held (p / 2 ^ 23) (p % 2 ^ 23) (omega arith)) h))

pub at-plus : (s : Bool) (p : ℕ) → s ≡ false → p < 0x5380_0000 → (size_of p / 2 ^ 126 + 2 ^ 27) % 2 ^ 32 ≡ Low s p
at-plus s p e h = rw e (sym (finite-low false p (omega arith) ∙ plus-low (p / 2 ^ 23) (p % 2 ^ 23) (digits_lt p) (omega arith)))

-- a word that gives 2 ^ 27 when the magnitude, cut up, is added to it, and the only one
pub minus-sum : (p : ℕ) → 0x2680_0000 < p → p ≤ 0x5380_0000 → (Low true p + ceil (size_of p) % 2 ^ 32) % 2 ^ 32 ≡ 2 ^ 27
minus-sum p lo hi =
    rw (finite-low true p (omega arith))
    (minus-low (p / 2 ^ 23) (p % 2 ^ 23) (digits_lt p) (omega arith) (omega arith) (not-tiny p lo) (ceil-le p hi))

pub at-minus : (s : Bool) (p r : ℕ) → s ≡ true → 0x2680_0000 < p → p ≤ 0x5380_0000 → r < 2 ^ 32 → (r + ceil (size_of p) % 2 ^ 32) % 2 ^ 32 ≡ 2 ^ 27 → r ≡ Low s p
at-minus s p r e lo hi R h = rw e (one_word r (Low true p) (ceil (size_of p) % 2 ^ 32) R (low_bits-lt (encoded true (p / 2 ^ 23) (p % 2 ^ 23))) h (minus-sum p lo hi))
  where
    one_word : (r w u : ℕ) → r < 2 ^ 32 → w < 2 ^ 32 → (r + u) % 2 ^ 32 ≡ 2 ^ 27 → (w + u) % 2 ^ 32 ≡ 2 ^ 27 → r ≡ w
    one_word r w u a b c d = omega arith
