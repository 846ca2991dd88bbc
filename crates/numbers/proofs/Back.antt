-- "For codes of size at most 2^24 either side of zero, coding again gives the code back."
use Rattle.std.proofs.Common.{◌≡◌, ℕ, suc, ◌+◌, ◌-◌, ◌*◌, ◌/◌, ◌%◌, ◌^◌, ◌<◌, ◌≤◌, Bool, true, false, ℤ, pos, negsuc, nat_abs, sym, refl, ap, ◌∙◌, subst, inl, inr, le_trans, mul-le-mul_right, mod-lt, zero-lt-suc, mul_assoc, mul_comm, add-mul, eq-or-lt_of_le, mul-one, mul-div_cancel, arith, lit<, lit≤}
use native.Mathlib.Nat.{mul-sub}
use lib.Ieee.{Float, fin, binary32, round, div, of_int}
use lib.Ieee.Fits.{div-fits}
use lib.Ieee.Exact.{HasValue}
use Rattle.octets.proofs.Choosing.{lt-or-le, below, above, either_lt}
use Rattle.numbers.specs.Pattern.{round_to}
use Rattle.numbers.specs.FixedPoint.{flip27, held, cut_sum, code_word, code_of, around_zero, bits_of_code}
use Rattle.numbers.specs.Ieee.{float_by, encoded_by}
use Rattle.numbers.proofs.Round.{round_to-exact, rescale}
use Rattle.numbers.proofs.Bits.{steps-val, code-bits}
use Rattle.numbers.proofs.Agrees.{value-agrees, from-agrees}

-- ---- m whole steps either side of zero
module _ (m : ℕ) (M : m ≤ 2 ^ 24) where
  plus : cut_sum false (m * 2 ^ 126) ≡ pos (2 ^ 27 + m)
  unfolding cut_sum
  plus =
      let e : 2 ^ 153 + m * 2 ^ 126 ≡ (2 ^ 27 + m) * 2 ^ 126 = sym (add-mul (2 ^ 27) m (2 ^ 126)) in
      ap pos (rw (round_to-exact 53 (2 ^ 153 + m * 2 ^ 126) (2 ^ 27 + m) 126 e (omega arith), e) (mul-div_cancel (2 ^ 27 + m) (lit< tt)))

  minus : cut_sum true (m * 2 ^ 126) ≡ pos (2 ^ 27 - m)
  unfolding cut_sum
  minus =
      let e : 2 ^ 153 - m * 2 ^ 126 ≡ (2 ^ 27 - m) * 2 ^ 126 = sym (rw (mul_comm (2 ^ 27 - m), mul-sub, mul_comm (2 ^ 126) m)) in
      sym (above _ _ _ _ _ (le_trans (mul-le-mul_right (2 ^ 126) M) (lit≤ tt)) refl)
      ∙ ap pos (rw (round_to-exact 53 (2 ^ 153 - m * 2 ^ 126) (2 ^ 27 - m) 126 e (omega arith), e) (mul-div_cancel (2 ^ 27 - m) (lit< tt)))

  -- their float, coded
  abbrev float : Bool → Float
  float s = div binary32 (round binary32 s m 1) (fin false 1 (pos 23))

  recoded : (s : Bool) → encoded_by (float s) ≡ held (cut_sum s (m * 2 ^ 126))
  recoded s = elim (eq-or-lt_of_le M) [
    | inl e ↦ value-agrees (float s) s (m * 2 ^ 126) 1 150 (lit< tt) (lit< tt) (ap (λ (n : ℕ). n * 2 ^ 126) e) (value (round_to-exact 24 m 1 24 e (lit< tt)))
    | inr l ↦ value-agrees (float s) s (m * 2 ^ 126) m 126 l (lit< tt) refl (value (round_to-exact 24 m m 0 (sym (mul-one m)) l))
  ]
    where
      value : round_to 24 m ≡ m → HasValue (float s) s (m * 2 ^ 126) (2 ^ 149)
      value e =
          rescale (float s) s m (2 ^ 23) (m * 2 ^ 126) (2 ^ 149) (lit< tt) (mul_assoc m (2 ^ 126) (2 ^ 23))
          (subst (λ (n : ℕ). HasValue (float s) s n (2 ^ 23)) e (steps-val s m (omega arith)))

  -- and their code
  word-plus : code_word (held (pos (2 ^ 27 + m))) ≡ m
  word-plus = sym (below _ _ _ _ _ (omega arith) (omega arith))

  word-minus : 0 < m → code_word (held (pos (2 ^ 27 - m))) ≡ 2 ^ 28 - m
  word-minus p = sym (below _ _ _ _ _ (omega arith) (omega arith))

-- ---- which code has these steps
clash : {A : Type 0} {m n : ℕ} → pos m ≡ negsuc n → A
clash e = let z : ◌≡◌ {A = ℕ} 0 1 = cc in absurd (omega arith)

module _ (c : ℕ) (C : c < 2 ^ 32) where
  abbrev difference : ℕ → ℕ
  difference flipped = (flipped + (2 ^ 32 - 2 ^ 27)) % 2 ^ 32

  -- the code from the difference, by its bit 27; alone, so that `omega` reads little
  module _ (m : ℕ) (M : m ≤ 2 ^ 24) where
    plus-clear : c / 2 ^ 27 % 2 ≡ 0 → difference (c + 2 ^ 27) ≡ m → m ≡ c
    plus-clear b e = omega arith

    plus-set : c / 2 ^ 27 % 2 ≡ 1 → difference (c - 2 ^ 27) ≡ m → m ≡ c
    plus-set b e = omega arith

    minus-clear : 0 < m → c / 2 ^ 27 % 2 ≡ 0 → difference (c + 2 ^ 27) ≡ 2 ^ 32 - m → 2 ^ 28 - m ≡ c
    minus-clear p b e = omega arith

    minus-set : 0 < m → c / 2 ^ 27 % 2 ≡ 1 → difference (c - 2 ^ 27) ≡ 2 ^ 32 - m → 2 ^ 28 - m ≡ c
    minus-set p b e = omega arith

  by_bit : {A : Type 0} (d : ℕ) → difference (flip27 c) ≡ d → (c / 2 ^ 27 % 2 ≡ 0 → difference (c + 2 ^ 27) ≡ d → A) → (c / 2 ^ 27 % 2 ≡ 1 → difference (c - 2 ^ 27) ≡ d → A) → A
  by_bit d e clear set = elim (lt-or-le (c / 2 ^ 27 % 2) 1) [
    | inl l ↦ let f : flip27 c ≡ c + 2 ^ 27 = omega arith in clear (omega arith) (rw f at e)
    | inr l ↦ let f : flip27 c ≡ c - 2 ^ 27 = omega arith in set (omega arith) (rw f at e)
  ]

  from-plus : (m : ℕ) → m ≤ 2 ^ 24 → around_zero c ≡ pos m → m ≡ c
  unfolding around_zero
  from-plus m M =
      let d = difference (flip27 c) in
      either_lt (λ (z : ℤ). z ≡ pos m → m ≡ c) d (2 ^ 31) (pos d) (negsuc (2 ^ 32 - suc d))
      (λ l e. let f : d ≡ m = cc in by_bit m f (plus-clear m M) (plus-set m M))
      (λ l e. clash (sym e))

  from-minus : (k : ℕ) → suc k ≤ 2 ^ 24 → around_zero c ≡ negsuc k → 2 ^ 28 - suc k ≡ c
  unfolding around_zero
  from-minus k K =
      let d = difference (flip27 c) in
      let D : d < 2 ^ 32 = mod-lt (flip27 c + (2 ^ 32 - 2 ^ 27)) (lit< tt) in
      either_lt (λ (z : ℤ). z ≡ negsuc k → 2 ^ 28 - suc k ≡ c) d (2 ^ 31) (pos d) (negsuc (2 ^ 32 - suc d))
      (λ l e. clash e)
      (λ l e. let f : 2 ^ 32 - suc d ≡ k = cc in by_bit (2 ^ 32 - suc k) (turned d k D f) (minus-clear (suc k) K (zero-lt-suc k)) (minus-set (suc k) K (zero-lt-suc k)))
    where
      turned : (d k : ℕ) → d < 2 ^ 32 → 2 ^ 32 - suc d ≡ k → d ≡ 2 ^ 32 - suc k
      turned d k h e = omega arith

  pub comes_back : nat_abs (around_zero c) ≤ 2 ^ 24 → code_of (bits_of_code c) ≡ c
  unfolding of_int
  comes_back h =
      ap code_of (sym (code-bits c))
      ∙ from-agrees (float_by c) (div-fits binary32 (of_int binary32 (around_zero c)) (fin false 1 (pos 23)))
      ∙ go (around_zero c) refl h
    where
      go : (z : ℤ) → around_zero c ≡ z → nat_abs z ≤ 2 ^ 24 → code_word (encoded_by (div binary32 (of_int binary32 z) (fin false 1 (pos 23)))) ≡ c
      go (pos m) e M = rw (recoded m M false, plus m M) (word-plus m M ∙ from-plus m M e)
      go (negsuc k) e M = rw (recoded (suc k) M true, minus (suc k) M) (word-minus (suc k) M (omega arith) ∙ from-minus k M e)
