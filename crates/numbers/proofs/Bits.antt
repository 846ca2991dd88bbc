-- The pattern of a float whose value is known, and with it the bits of a code's float and of a byte's gain.
use Rattle.std.proofs.Common.{◌≡◌, ℕ, zero, suc, ◌+◌, ◌-◌, ◌*◌, ◌/◌, ◌%◌, ◌^◌, ◌<◌, ◌≤◌, Bool, true, false, cond, not, ℤ, pos, negsuc, sym, refl, ap, ◌∙◌, inl, inr, le_trans, le_of_eq, le_refl, lt_of_lt_of_le, lt_irrefl, mul-le-mul_right, zero-lt-suc, mul_assoc, mul_comm, le_antisymm, eq-or-lt_of_le, mul-pos, one-mul, lt_of_not-le, zero-mul, mul-one, mul_right_comm, not-le_of_lt, mul-div_cancel, arith, lit<, lit≤, pow_pos, pow_mono, pow-add, shl_lt}
use Prim.Native.Nat.{compare}
use native.Mathlib.Nat.{mul-div-mul_right}
use mathlib.Core.Bool.{beq}
use lib.Signed.{mag}
use lib.Pow.{pow-lt}
use lib.Ieee.{Float, nan, inf, fin, binary32, up, down, size, round, mul, div, of_int, of_bits, to_bits}
use lib.Ieee.Fits.{down_pos, nearest-le, kept-lt, mul-fits, div-fits}
use lib.Ieee.Digits.{size-lt, size-le, size_reaches}
use lib.Ieee.Nearest.{closest}
use lib.Ieee.Back.{round_whole}
use lib.Ieee.Bits.{of_bits-to_bits}
use lib.Ieee.Exact.{HasValue}
use Rattle.numbers.specs.Pattern.{round_to, pattern_of}
use Rattle.numbers.specs.FixedPoint.{around_zero, bits_of_steps, bits_of_code}
use Rattle.numbers.specs.Gain.{bits_of_byte}
use Rattle.numbers.specs.Ieee.{float_by, gain_by}
use Rattle.numbers.proofs.Round.{round-to, round-below}
use Rattle.numbers.proofs.Words.{around-in}

-- ---- the pattern of ±n / 2 ^ d

size-shift : (n k : ℕ) → 0 < n → size (n * 2 ^ k) ≡ size n + k
size-shift n k h =
    le_antisymm (size-le (n * 2 ^ k) (size n + k) (shl_lt (size n) k (size-lt n)))
    (reach (lt_of_not-le (λ (g : size (n * 2 ^ k) ≤ size n - 1 + k). lt_irrefl (n * 2 ^ k)
    (lt_of_lt_of_le (size-lt (n * 2 ^ k)) (le_trans (pow_mono g) (le_trans (le_of_eq (pow-add 2 (size n - 1) k)) (mul-le-mul_right (2 ^ k) (size_reaches n (size n - 1) (last some)))))))))
  where
    some : 0 < size n
    some = lt_of_not-le (λ (g : size n ≤ 0). not-le_of_lt (lt_of_lt_of_le (size-lt n) (pow_mono {i = size n} {j = 0} g)) h)

    last : {z : ℕ} → 0 < z → z - 1 < z
    last p = omega arith

    reach : {w : ℕ} → size n - 1 + k < w → size n + k ≤ w
    reach g = omega (arith, some)

-- `to_bits` with the size in units of 2 ^ -149 as a variable
abbrev write : Bool → ℕ → ℕ
write s n = cond s (2 ^ 31) 0 + (size n - 24) * 2 ^ 23 + n / 2 ^ (size n - 24)

write-nothing : (s : Bool) → write s 0 ≡ cond s (2 ^ 31) 0
unfolding size
write-nothing true = refl
write-nothing false = refl

module _ (d j : ℕ) (is : d + j ≡ 125) where
  written : (s : Bool) (n : ℕ) → 0 < n → write s (n * 2 ^ (24 + j)) ≡ cond s (2 ^ 31) 0 + (size n + 125 - d) * 2 ^ 23 + n * 2 ^ 24 / 2 ^ size n
  written s n h =
      let e : size n + (24 + j) - 24 ≡ size n + 125 - d = omega arith in
      let f : size n + 125 - d ≡ size n + j = omega arith in
      rw (size-shift n (24 + j) h, e)
      (ap (λ (q : ℕ). cond s (2 ^ 31) 0 + (size n + 125 - d) * 2 ^ 23 + q)
      (rw (f, pow-add, pow-add, ← mul_assoc) (mul-div-mul_right (n * 2 ^ 24) (2 ^ size n) (pow_pos j))))

  pub pattern-is : (y : Float) (s : Bool) (n : ℕ) → HasValue y s n (2 ^ d) → to_bits binary32 y ≡ pattern_of s n d
  unfolding pattern_of to_bits
  pattern-is nan s n v = absurd v
  pattern-is (inf t) s n v = absurd v
  pattern-is (fin t m e) s n v = rw v.0 (ap (write s) units ∙ last n)
    where
      units : m * up e * 2 ^ 149 / down e ≡ n * 2 ^ (24 + j)
      units =
          let p : 149 ≡ d + (24 + j) = omega arith in
          ap (λ (k : ℕ). m * up e * 2 ^ k / down e) p
          ∙ rw (pow-add 2 d (24 + j), ← mul_assoc, v.1, mul_right_comm) (mul-div_cancel (n * 2 ^ (24 + j)) (down_pos e))

      last : (n : ℕ) → write s (n * 2 ^ (24 + j)) ≡ pattern_of s n d
      last zero = rw zero-mul (write-nothing s)
      last (suc n) = written s (suc n) (zero-lt-suc n)

-- ---- a code's float

pub signs : (t : Bool) → not (beq t false) ≡ t
signs true = refl
signs false = refl

-- a rounded number has at most p digits, and zeros after them
parts : (p n : ℕ) → 0 < p → (q : ℕ) × (j : ℕ) × (round_to p n ≡ q * 2 ^ j) × (q < 2 ^ p) × (j ≤ p + (size n - p))
unfolding round_to
parts p n P =
    let k = size n - p in
    let c = closest n (2 ^ k) in
    elim (eq-or-lt_of_le (le_trans (nearest-le (n / 2 ^ k) (compare (n % 2 ^ k * 2) (2 ^ k))) (kept-lt p n))) [
      | inl e ↦ (1, p + k, ap (λ (x : ℕ). x * 2 ^ k) e ∙ sym (pow-add 2 p k) ∙ sym (one-mul (2 ^ (p + k))), pow-lt {i = 0} {j = p} P, le_refl (p + k))
      | inr l ↦ (c, k, refl, l, omega arith)
    ]

-- the division is exact
div-val : (x : Float) (s : Bool) (n q j : ℕ) → q < 2 ^ 24 → j ≤ 33 → n ≡ q * 2 ^ j → HasValue x s n 1 → HasValue (div binary32 x (fin false 1 (pos 23))) s n (2 ^ 23)
unfolding div
div-val nan s n q j Q J is v = v
div-val (inf t) s n q j Q J is v = v
div-val (fin t m e) s n q j Q J is v =
    rw (signs t, v.0)
    (round-to binary32 23 126 refl s (m * up e * 1) (8388608 * down e) n q j (mul-pos {m = 8388608} (lit< tt) (down_pos e)) Q (omega arith) is
    (rw (v.1, mul_assoc, mul_comm (down e) 8388608)))

pub steps-val : (s : Bool) (n : ℕ) → n < 2 ^ 32 → HasValue (div binary32 (round binary32 s n 1) (fin false 1 (pos 23))) s (round_to 24 n) (2 ^ 23)
steps-val s n h =
    let w = parts 24 n (lit< tt) in
    let z : size n ≤ 32 = size-le n 32 h in
    div-val (round binary32 s n 1) s (round_to 24 n) w.0 w.1 w.3 (omega (arith, w.4)) w.2 (round-below binary32 0 149 refl s n 32 h (lit< tt) (lit< tt))

steps-bits : (z : ℤ) → mag z < 2 ^ 31 → to_bits binary32 (div binary32 (of_int binary32 z) (fin false 1 (pos 23))) ≡ bits_of_steps z
unfolding of_int
steps-bits (pos n) h = pattern-is 23 102 refl _ false (round_to 24 n) (steps-val false n (omega arith))
steps-bits (negsuc n) h = pattern-is 23 102 refl _ true (round_to 24 (suc n)) (steps-val true (suc n) (omega arith))

pub code-bits : (c : ℕ) → to_bits binary32 (float_by c) ≡ bits_of_code c
unfolding bits_of_code
code-bits c = steps-bits (around_zero c) (around-in c)

-- 2 ^ 23 as the machine has it, by its pattern
pub two-to-23 : of_bits binary32 0x4b00_0000 ≡ fin false 1 (pos 23)
unfolding of_bits
two-to-23 = refl

-- what to_f32 returns is what IEEE 754 gives
pub to-agrees : (c : ℕ) → of_bits binary32 (bits_of_code c) ≡ float_by c
to-agrees c =
    ap (of_bits binary32) (sym (code-bits c))
    ∙ of_bits-to_bits binary32 (float_by c) (div-fits binary32 (of_int binary32 (around_zero c)) (fin false 1 (pos 23)))

-- ---- a byte's gain
half-val : (x : Float) (k : ℕ) → k < 2 ^ 8 → HasValue x false k 1 → HasValue (mul binary32 (fin true 1 (negsuc 0)) x) true k (2 ^ 1)
unfolding mul
half-val nan k h v = v
half-val (inf t) k h v = v
half-val (fin t m e) k h v =
    rw v.0
    (round-to binary32 1 148 refl true (1 * (m * up e)) (2 * down e) k k 0 (mul-pos {m = 2} (lit< tt) (down_pos e)) (omega arith) (lit≤ tt) (sym (mul-one k))
    (rw (one-mul, ← mul-one (m * up e), v.1, mul_assoc, mul_comm (down e) 2)))

pub gain-bits : (k : ℕ) → k < 256 → to_bits binary32 (gain_by k) ≡ bits_of_byte k
unfolding of_int
gain-bits k h = pattern-is 1 124 refl (gain_by k) true k (half-val (of_int binary32 (pos k)) k h (round_whole binary32 false k (omega arith)))

pub gain-agrees : (k : ℕ) → k < 256 → of_bits binary32 (bits_of_byte k) ≡ gain_by k
gain-agrees k h =
    ap (of_bits binary32) (sym (gain-bits k h))
    ∙ of_bits-to_bits binary32 (gain_by k) (mul-fits binary32 (fin true 1 (negsuc 0)) (of_int binary32 (pos k)))
