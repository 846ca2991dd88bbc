-- How large a magnitude is, by the pattern's exponent: an exponent x is a factor of 2 ^ (x - 1).
use Rattle.std.proofs.Common.{◌≡◌, ℕ, zero, suc, ◌+◌, ◌-◌, ◌*◌, ◌/◌, ◌%◌, ◌^◌, ◌<◌, ◌≤◌, inl, inr, le_trans, le_of_eq, lt_of_lt_of_le, le_of_lt, mul-le-mul_right, mul-le-mul, eq-or-lt_of_le, mul-le-mul_left, not-le_of_lt, arith, lit≤, pow_mono, pow-add, shl_lt}
use Rattle.octets.proofs.Choosing.{lt-or-le}
use Rattle.numbers.specs.Pattern.{magnitude}

module _ (t : ℕ) where
  pub led : t < 2 ^ 23 → 2 ^ 23 + t < 2 ^ 24
  led h = omega arith

  pub mag_is : (x : ℕ) → 0 < x → magnitude x t ≡ (2 ^ 23 + t) * 2 ^ (x - 1)
  unfolding magnitude
  mag_is zero h = absurd (omega arith)
  mag_is (suc x) h = let e : suc x - 1 ≡ x = omega arith in rw e

  -- an exponent of at most K + 1 is below 2 ^ (24 + K), and one above K at least 2 ^ (23 + K)
  pub mag-lt : (x K : ℕ) → t < 2 ^ 23 → x ≤ suc K → magnitude x t < 2 ^ (24 + K)
  unfolding magnitude
  mag-lt zero K H h = lt_of_lt_of_le (lt_of_lt_of_le H (lit≤ tt)) (pow_mono {i = 24} {j = 24 + K} (omega arith))
  mag-lt (suc x) K H h = lt_of_lt_of_le (shl_lt 24 x (led H)) (pow_mono {i = 24 + x} {j = 24 + K} (omega arith))

  pub mag-ge : (x K : ℕ) → K < x → 2 ^ (23 + K) ≤ magnitude x t
  unfolding magnitude
  mag-ge zero K h = absurd (omega arith)
  mag-ge (suc x) K h =
      le_trans (le_of_eq (pow-add 2 23 K))
      (le_trans (mul-le-mul_left (2 ^ 23) (pow_mono {i = K} {j = x} (omega arith))) (mul-le-mul_right {m = 2 ^ 23} {n = 2 ^ 23 + t} (2 ^ x) (omega arith)))

  pub mag-le : (x : ℕ) → t < 2 ^ 23 → x < 167 → magnitude x t ≤ (2 ^ 24 - 1) * 2 ^ 165
  unfolding magnitude
  mag-le zero H h = le_trans (le_of_lt H) (lit≤ tt)
  mag-le (suc x) H h = mul-le-mul {n₁ = 2 ^ 23 + t} {n₂ = 2 ^ 24 - 1} (omega arith) (pow_mono {i = x} {j = 165} (omega arith))

-- the magnitude of a pattern without its sign
abbrev pub size_of : ℕ → ℕ
size_of p = magnitude (p / 2 ^ 23) (p % 2 ^ 23)

pub digits_lt : (p : ℕ) → p % 2 ^ 23 < 2 ^ 23
digits_lt p = omega arith

-- patterns stand in the order of their magnitudes
by_digits : (x t u : ℕ) → t ≤ u → magnitude x t ≤ magnitude x u
unfolding magnitude
by_digits zero t u h = h
by_digits (suc x) t u h = mul-le-mul_right {m = 2 ^ 23 + t} {n = 2 ^ 23 + u} (2 ^ x) (omega arith)

by-exponent : (x y t u : ℕ) → t < 2 ^ 23 → x < y → magnitude x t ≤ magnitude y u
unfolding magnitude
by-exponent zero y t u H h = le_trans (le_of_lt H) (mag-ge u y 0 h)
by-exponent (suc x) y t u H h =
    let e : 24 + x ≡ 23 + suc x = omega arith in
    le_trans (le_of_lt (shl_lt 24 x (led t H))) (rw e (mag-ge u y (suc x) h))

pub in_order : (p r : ℕ) → p ≤ r → size_of p ≤ size_of r
in_order p r h = elim (eq-or-lt_of_le {n = p / 2 ^ 23} {m = r / 2 ^ 23} (omega arith)) [
  | inl e ↦ rw e (by_digits (r / 2 ^ 23) (p % 2 ^ 23) (r % 2 ^ 23) (omega arith))
  | inr l ↦ by-exponent (p / 2 ^ 23) (r / 2 ^ 23) (p % 2 ^ 23) (r % 2 ^ 23) (digits_lt p) l
]

-- and the other way round
pub in-order-lt : (p r : ℕ) → size_of p < size_of r → p < r
in-order-lt p r h = elim (lt-or-le p r) [
  | inl l ↦ l
  | inr l ↦ absurd (not-le_of_lt h (in_order r p l))
]
