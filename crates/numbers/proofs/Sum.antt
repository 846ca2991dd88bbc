-- What the rounded sum comes to. A magnitude is q * 2 ^ k: where k is large enough the sum with 2 ^ 153 is exact, and a
-- smaller one lies between two numbers that antt rounds alike. Large powers stand as variables where `omega` works.
use Rattle.std.proofs.Common.{◌≡◌, ℕ, zero, suc, ◌+◌, ◌-◌, ◌*◌, ◌/◌, ◌%◌, ◌^◌, ◌<◌, ◌≤◌, min, true, false, pos, neg_ℤ, sym, refl, ap, ◌∙◌, inl, inr, zero-le, le_trans, lt_of_lt_of_le, le_of_suc-le-suc, lt_of_le_of_lt, add-zero, le_of_lt, mod-lt, mul_assoc, suc-mul, mul_comm, div-lt_iff_lt-mul, add-mul, add-sub_of_le, le_antisymm, one-mul, lt_of_not-le, div-add-mod', not-le_of_lt, mul-div_cancel, sub-le, arith, lit<, lit≤, pow_mono, pow-add, shl_lt}
use native.Mathlib.Nat.{mul-sub, sub-le-sub_left, div-eq_of_lt, div-eq_of_lt-le, mul-add-div_right}
use lib.Pow.{shr_mono}
use lib.Ieee.Digits.{back}
use Rattle.octets.proofs.Choosing.{lt-or-le, below, above}
use Rattle.numbers.specs.Pattern.{magnitude, round_to}
use Rattle.numbers.specs.FixedPoint.{cut_sum, held, low_bits}
use Rattle.numbers.proofs.Round.{round_to-exact, round_to-mono}
use Rattle.numbers.proofs.Magnitude.{led, mag_is, mag-lt, mag-ge, mag-le}

-- ---- exact sums

sub-mul : (a b c : ℕ) → (a - b) * c ≡ a * c - b * c
sub-mul a b c = rw (mul_comm (a - b) c, mul-sub, mul_comm c a, mul_comm c b)

-- 2 ^ 153 in units of 2 ^ k, and q * 2 ^ k in units of 2 ^ 153
module _ (q k : ℕ) where
  as-units : k ≤ 153 → 2 ^ (153 - k) * 2 ^ k ≡ 2 ^ 153
  as-units h = sym (pow-add 2 (153 - k) k) ∙ ap (λ (x : ℕ). 2 ^ x) (back 153 k h)

  as-large : 153 ≤ k → q * 2 ^ k ≡ q * 2 ^ (k - 153) * 2 ^ 153
  as-large h = ap (λ (x : ℕ). q * 2 ^ x) (sym (back k 153 h)) ∙ rw (pow-add, mul_assoc)

  large-lt : q < 2 ^ 24 → k ≤ 181 → q * 2 ^ (k - 153) < 2 ^ 52
  large-lt Q K = lt_of_lt_of_le (shl_lt 24 (k - 153) Q) (pow_mono {i = 24 + (k - 153)} {j = 52} (omega arith))

  exact-add : q < 2 ^ 24 → 101 ≤ k → k ≤ 181 → round_to 53 (2 ^ 153 + q * 2 ^ k) ≡ 2 ^ 153 + q * 2 ^ k
  exact-add Q lo hi = elim (lt-or-le 153 k) [
    | inl h ↦
        round_to-exact 53 _ (1 + q * 2 ^ (k - 153)) 153 (ap (λ (x : ℕ). 2 ^ 153 + x) (as-large (le_of_lt h)) ∙ sym (add-mul 1 _ (2 ^ 153)))
        (small (large-lt Q hi))
    | inr h ↦
        round_to-exact 53 _ (2 ^ (153 - k) + q) k (ap (λ (x : ℕ). x + q * 2 ^ k) (sym (as-units h)) ∙ sym (add-mul _ q (2 ^ k)))
        (sum (pow_mono {i = 153 - k} {j = 52} (omega arith)))
  ]
    where
      small : {n : ℕ} → n < 2 ^ 52 → 1 + n < 2 ^ 53
      small h = omega arith

      sum : {n : ℕ} → n ≤ 2 ^ 52 → n + q < 2 ^ 53
      sum h = omega arith

  exact-sub : 0 < q → 100 ≤ k → k ≤ 153 → round_to 53 (2 ^ 153 - q * 2 ^ k) ≡ 2 ^ 153 - q * 2 ^ k
  exact-sub Q lo hi =
      round_to-exact 53 _ (2 ^ (153 - k) - q) k (ap (λ (x : ℕ). x - q * 2 ^ k) (sym (as-units hi)) ∙ sym (sub-mul _ q (2 ^ k)))
      (less (pow_mono {i = 153 - k} {j = 53} (omega arith)))
    where
      less : {n : ℕ} → n ≤ 2 ^ 53 → n - q < 2 ^ 53
      less h = omega arith

  exact-over : q < 2 ^ 24 → k ≤ 181 → round_to 53 (q * 2 ^ k - 2 ^ 153) ≡ q * 2 ^ k - 2 ^ 153
  exact-over Q hi = elim (lt-or-le 153 k) [
    | inl h ↦
        round_to-exact 53 _ (q * 2 ^ (k - 153) - 1) 153 (ap (λ (x : ℕ). x - 2 ^ 153) (as-large (le_of_lt h)) ∙ sym (sub-mul _ 1 (2 ^ 153)))
        (lt_of_le_of_lt (sub-le _ 1) (lt_of_lt_of_le (large-lt Q hi) (lit≤ tt)))
    | inr h ↦
        round_to-exact 53 _ (q - 2 ^ (153 - k)) k (ap (λ (x : ℕ). q * 2 ^ k - x) (sym (as-units h)) ∙ sym (sub-mul q _ (2 ^ k)))
        (lt_of_le_of_lt (sub-le q _) (lt_of_lt_of_le Q (lit≤ tt)))
  ]

-- ---- between two numbers that are rounded alike
rounded-mono : (a b : ℕ) → a ≤ b → round_to 53 a / 2 ^ 126 ≤ round_to 53 b / 2 ^ 126
rounded-mono a b h = shr_mono 126 (round_to-mono 53 a b (lit< tt) h)

between : (a n b c : ℕ) → a ≤ n → n ≤ b → round_to 53 a / 2 ^ 126 ≡ c → round_to 53 b / 2 ^ 126 ≡ c → round_to 53 n / 2 ^ 126 ≡ c
between a n b c h k p q = le_antisymm (rw (← q) (rounded-mono n b k)) (rw (← p) (rounded-mono a n h))

at_top : round_to 53 (2 ^ 153) / 2 ^ 126 ≡ 2 ^ 27
unfolding round_to
at_top = refl

at_more : round_to 53 (2 ^ 153 + 2 ^ 125) / 2 ^ 126 ≡ 2 ^ 27
unfolding round_to
at_more = refl

-- a tie, which goes to the even one
at-tie : round_to 53 (2 ^ 153 - 2 ^ 99) / 2 ^ 126 ≡ 2 ^ 27
unfolding round_to
at-tie = refl

at_under : round_to 53 (2 ^ 153 - (2 ^ 99 + 1)) / 2 ^ 126 ≡ 2 ^ 27 - 1
unfolding round_to
at_under = refl

at_less : round_to 53 (2 ^ 153 - 2 ^ 124) / 2 ^ 126 ≡ 2 ^ 27 - 1
unfolding round_to
at_less = refl

at-end : round_to 53 (2 ^ 189) / 2 ^ 126 ≡ 2 ^ 63
unfolding round_to
at-end = refl

-- ---- above zero
module _ (x t : ℕ) where
  pub plus-is : t < 2 ^ 23 → x ≤ 181 → round_to 53 (2 ^ 153 + magnitude x t) / 2 ^ 126 ≡ 2 ^ 27 + magnitude x t / 2 ^ 126
  plus-is H hi = elim (lt-or-le x 102) [
    | inl h ↦
        let l : magnitude x t < 2 ^ 125 = mag-lt t x 101 H (le_of_lt h) in
        between (2 ^ 153) _ (2 ^ 153 + 2 ^ 125) (2 ^ 27) (more (2 ^ 153) _) (grow (2 ^ 153) l) at_top at_more
        ∙ rw (div-eq_of_lt (lt_of_lt_of_le l (lit≤ tt)))
    | inr h ↦
        ap (λ (n : ℕ). n / 2 ^ 126) (rw (mag_is t x (omega arith)) (exact-add (2 ^ 23 + t) (x - 1) (led t H) (omega arith) (omega arith)))
        ∙ mul-add-div_right {m = 2 ^ 126} (lit< tt) (2 ^ 27) (magnitude x t)
  ]
    where
      more : (p n : ℕ) → p ≤ p + n
      more p n = omega arith

      grow : (p : ℕ) {a b : ℕ} → a < b → p + a ≤ p + b
      grow p h = omega arith

  pub plus-low : t < 2 ^ 23 → x < 167 → low_bits 32 (held (cut_sum false (magnitude x t))) ≡ (magnitude x t / 2 ^ 126 + 2 ^ 27) % 2 ^ 32
  unfolding cut_sum
  plus-low H h = rw (plus-is H (omega arith)) (uncap (shr_mono 126 (mag-le t x H h)))
    where
      uncap : {q : ℕ} → q ≤ (2 ^ 24 - 1) * 2 ^ 39 → min (2 ^ 27 + q) (2 ^ 63 - 1) % 2 ^ 32 ≡ (q + 2 ^ 27) % 2 ^ 32
      uncap h = omega arith

  pub plus-held : 167 ≤ x → low_bits 32 (held (cut_sum false (magnitude x t))) ≡ 2 ^ 32 - 1
  unfolding cut_sum
  plus-held h = cap (rw at-end at (rounded-mono (2 ^ 189) (2 ^ 153 + magnitude x t) (le_trans (mag-ge t x 166 h) (more (2 ^ 153) _))))
    where
      more : (p n : ℕ) → n ≤ p + n
      more p n = omega arith

      cap : {q : ℕ} → 2 ^ 63 ≤ q → min q (2 ^ 63 - 1) % 2 ^ 32 ≡ 2 ^ 32 - 1
      cap h = omega arith

-- ---- below zero

-- steps, cut up
abbrev pub ceil : ℕ → ℕ
ceil n = (n + (2 ^ 126 - 1)) / 2 ^ 126

ceil-sub : (C D N : ℕ) → 0 < D → N ≤ C * D → (C * D - N) / D ≡ C - (N + (D - 1)) / D
ceil-sub C D N p h =
    let u = (N + (D - 1)) / D in
    let r = (N + (D - 1)) % D in
    let parts : u * D + r ≡ N + (D - 1) = div-add-mod' (N + (D - 1)) D in
    let short : r < D = mod-lt (N + (D - 1)) p in
    let u-le : u ≤ C = le_of_suc-le-suc ((div-lt_iff_lt-mul {k = D} {y = suc C} p).1 (rw suc-mul (omega arith))) in
    let whole : C * D ≡ u * D + (C - u) * D = ap (λ (x : ℕ). x * D) (sym (add-sub_of_le u-le)) ∙ add-mul u (C - u) D in
    div-eq_of_lt-le D (omega arith) (rw (add-mul, one-mul) (omega arith))

pub ceil-whole : (M : ℕ) → ceil (M * 2 ^ 126) ≡ M
ceil-whole M = mul-add-div_right {m = 2 ^ 126} (lit< tt) M (2 ^ 126 - 1) ∙ add-zero M

pub ceil-one : (D n : ℕ) → 0 < n → n ≤ D → (n + (D - 1)) / D ≡ 1
ceil-one D n p h = div-eq_of_lt-le D (omega arith) (omega arith)

module _ (n : ℕ) where
  cut-under : n ≤ 2 ^ 153 → cut_sum true n ≡ pos (round_to 53 (2 ^ 153 - n) / 2 ^ 126)
  unfolding cut_sum
  cut-under h = sym (above _ _ _ _ _ h refl)

  cut-over : 2 ^ 153 < n → cut_sum true n ≡ neg_ℤ (pos (round_to 53 (n - 2 ^ 153) / 2 ^ 126))
  unfolding cut_sum
  cut-over h = sym (below _ _ _ _ _ h refl)

  -- 2 ^ -27 of a step and less is rounded away
  pub minus-tiny : n ≤ 2 ^ 99 → cut_sum true n ≡ pos (2 ^ 27)
  minus-tiny h =
      cut-under (le_trans h (lit≤ tt))
      ∙ ap pos (between (2 ^ 153 - 2 ^ 99) (2 ^ 153 - n) (2 ^ 153) (2 ^ 27) (sub-le-sub_left h (2 ^ 153)) (sub-le (2 ^ 153) n) at-tie at_top)

  pub minus-held : 2 ^ 189 + 2 ^ 153 ≤ n → low_bits 32 (held (cut_sum true n)) ≡ 0
  minus-held h =
      rw (cut-over (lt_of_lt_of_le (lit< tt) h)) (cap _ (rw at-end at (rounded-mono (2 ^ 189) (n - 2 ^ 153) (less (2 ^ 189) (2 ^ 153) h))))
    where
      less : (a b : ℕ) → a + b ≤ n → a ≤ n - b
      less a b h = omega arith

      cap : (q : ℕ) → 2 ^ 63 ≤ q → low_bits 32 (held (neg_ℤ (pos q))) ≡ 0
      cap zero h = absurd (omega arith)
      cap (suc q) h = omega arith

module _ (x t : ℕ) (H : t < 2 ^ 23) (hi : x < 168) (some-x : 0 < x) where
  abbrev N : ℕ
  N = magnitude x t

  under : 2 ^ 99 < N → N ≤ 2 ^ 153 → round_to 53 (2 ^ 153 - N) / 2 ^ 126 ≡ 2 ^ 27 - ceil N
  under lo h = elim (lt-or-le 100 x) [
    | inl g ↦
        ap (λ (n : ℕ). n / 2 ^ 126) (rw (mag_is t x some-x) (exact-sub (2 ^ 23 + t) (x - 1) (omega arith) (omega arith) (omega (arith, x-le))))
        ∙ ceil-sub (2 ^ 27) (2 ^ 126) N (lit< tt) h
    | inr g ↦
        let l : N < 2 ^ 124 = mag-lt t x 100 H (omega arith) in
        between (2 ^ 153 - 2 ^ 124) (2 ^ 153 - N) (2 ^ 153 - (2 ^ 99 + 1)) (2 ^ 27 - 1) (sub-le-sub_left (le_of_lt l) (2 ^ 153)) (sub-le-sub_left (next lo) (2 ^ 153)) at_less at_under
        ∙ rw (ceil-one (2 ^ 126) N (lt_of_le_of_lt zero-le lo) (le_trans (le_of_lt l) (lit≤ tt)))
  ]
    where
      next : {n p : ℕ} → p < n → p + 1 ≤ n
      next h = omega arith

      x-le : x ≤ 154
      x-le = le_of_suc-le-suc (lt_of_not-le (λ (g : suc 154 ≤ x). not-le_of_lt (lt_of_lt_of_le (lit< tt) (mag-ge t x 154 g)) h))

  over : 2 ^ 153 < N → round_to 53 (N - 2 ^ 153) / 2 ^ 126 ≡ ceil N - 2 ^ 27
  over h =
      ap (λ (n : ℕ). n / 2 ^ 126) (rw (mag_is t x some-x) (exact-over (2 ^ 23 + t) (x - 1) (led t H) (omega arith)) ∙ ap (λ (n : ℕ). n - 2 ^ 153) whole ∙ sym (sub-mul M (2 ^ 27) (2 ^ 126)))
      ∙ mul-div_cancel (M - 2 ^ 27) (lit< tt)
      ∙ ap (λ (n : ℕ). n - 2 ^ 27) (sym (ap ceil whole ∙ ceil-whole M))
    where
      M : ℕ
      M = (2 ^ 23 + t) * 2 ^ (x - 1 - 126)

      x-ge : 126 < x
      x-ge = lt_of_not-le (λ (g : x ≤ 126). not-le_of_lt (lt_of_lt_of_le (mag-lt t x 125 H g) (lit≤ tt)) (le_of_lt h))

      whole : N ≡ M * 2 ^ 126
      whole = mag_is t x some-x ∙ ap (λ (k : ℕ). (2 ^ 23 + t) * 2 ^ k) (sym (back (x - 1) 126 (omega (arith, x-ge)))) ∙ rw (pow-add, mul_assoc)

  -- what is left when the magnitude, cut up, is taken from 2 ^ 27, modulo 2 ^ 32
  pub minus-low : 2 ^ 99 < N → ceil N ≤ 2 ^ 63 → (low_bits 32 (held (cut_sum true N)) + ceil N % 2 ^ 32) % 2 ^ 32 ≡ 2 ^ 27
  minus-low lo top = elim (lt-or-le (2 ^ 153) N) [
    | inl h ↦ rw (cut-over N h, over h) (past (ceil N) (ceil N - 2 ^ 27) top (shr_mono 126 (grow (2 ^ 126 - 1) (le_of_lt h))) refl)
    | inr h ↦ rw (cut-under N h, under lo h) (short (shr_mono 126 (grow (2 ^ 126 - 1) h)))
  ]
    where
      grow : (p : ℕ) {a b : ℕ} → a ≤ b → a + p ≤ b + p
      grow p h = omega arith

      short : {u : ℕ} → u ≤ 2 ^ 27 → (min (2 ^ 27 - u) (2 ^ 63 - 1) % 2 ^ 32 + u % 2 ^ 32) % 2 ^ 32 ≡ 2 ^ 27
      short h = omega arith

      past : (u m : ℕ) → u ≤ 2 ^ 63 → 2 ^ 27 ≤ u → u - 2 ^ 27 ≡ m → (low_bits 32 (held (neg_ℤ (pos m))) + u % 2 ^ 32) % 2 ^ 32 ≡ 2 ^ 27
      past u zero h l e = omega arith
      past u (suc m) h l e = omega arith
