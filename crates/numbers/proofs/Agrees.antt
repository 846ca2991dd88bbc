-- The code of a float is what the Rust computes from it, in the operations of IEEE 754: the product is exact, the sum is
-- rounded once, and the cut is held.
use Rattle.std.proofs.Common.{◌≡◌, ℕ, zero, suc, ◌+◌, ◌-◌, ◌*◌, ◌/◌, ◌^◌, ◌<◌, ◌≤◌, min, Bool, true, false, cond, not, T, eqb, ltb, pos, neg_ℤ, sym, refl, ap, ◌∙◌, true≢false, lt_of_lt_of_le, lt_of_le_of_lt, le_of_lt, mul-le-mul_right, mod-lt, mul_assoc, mul_comm, add-mul, add_comm, lt_of_mul-lt-mul_right, mul-lt-mul_of_pos_right, mul-one, mul_right_comm, le_of_mul-le-mul_right, sub-le, arith, lit<, lit≤, eqb→eq, ltb→lt, nltb→le, pow_mono, shl_lt}
use native.Mathlib.Nat.{mul-sub}
use native.Mathlib.Decide.{ℕ_discrete}
use mathlib.Core.Bool.{false≢true}
use lib.Dec.{not_T}
use lib.Pow.{field}
use lib.Ieee.{Float, nan, inf, fin, binary32, binary64, up, down, odd, round, sum, add, mul, to_signed, of_fields, of_bits, to_bits, fits}
use lib.Ieee.Fits.{down_pos}
use lib.Ieee.Bits.{cond_no, of_bits-to_bits}
use lib.Ieee.Nearest.{div_same}
use lib.Ieee.Exact.{HasValue, odd_sign}
use lib.Ieee.Scale.{round_same}
use Rattle.octets.proofs.Choosing.{below, above}
use Rattle.numbers.specs.Pattern.{negative, exponent, fraction, magnitude, round_to}
use Rattle.numbers.specs.FixedPoint.{cut_sum, held, range_end, encoded, code_word, code_of}
use Rattle.numbers.specs.Ieee.{encoded_by, code_by}
use Rattle.numbers.proofs.Round.{round-to, round-below}
use Rattle.numbers.proofs.Bits.{signs}
use Rattle.numbers.proofs.Steps.{finite, infinite, no_number}
use Rattle.numbers.proofs.Magnitude.{led}

-- ---- the product
mul_val : (x : Float) (s : Bool) (n q k : ℕ) → q < 2 ^ 24 → k < 254 → n ≡ q * 2 ^ k → HasValue x s n (2 ^ 149) → HasValue (mul binary64 x (fin false 1 (pos 23))) s n (2 ^ 126)
unfolding mul
mul_val nan s n q k Q K is v = v
mul_val (inf t) s n q k Q K is v = v
mul_val (fin t m e) s n q k Q K is v =
    rw (signs t, v.0)
    (round-to binary64 126 948 refl s (m * up e * 8388608) (down e * 1) n q k (rw mul-one (down_pos e)) (omega arith) (omega arith) is
    (mul_assoc (m * up e) 8388608 (2 ^ 126) ∙ v.1 ∙ ap (λ (d : ℕ). n * d) (sym (mul-one (down e)))))

-- ---- the cut
cut-pos : (x : Float) (a c : ℕ) → 0 < c → HasValue x false a c → to_signed 63 x ≡ held (pos (a / c))
unfolding to_signed
cut-pos nan a c C v = absurd v
cut-pos (inf t) a c C v = absurd v
cut-pos (fin true m e) a c C v = absurd (true≢false v.0)
cut-pos (fin false m e) a c C v = ap (λ (q : ℕ). pos (min q (2 ^ 63 - 1))) (div_same (m * up e) (down e) a c (down_pos e) C v.1)

held-neg : (q : ℕ) → neg_ℤ (pos (min q (2 ^ 63))) ≡ held (neg_ℤ (pos q))
held-neg zero = refl
held-neg (suc q) = let e : min (suc q) (2 ^ 63) ≡ suc (min q (2 ^ 63 - 1)) = omega arith in ap (λ (n : ℕ). neg_ℤ (pos n)) e

cut-neg : (x : Float) (a c : ℕ) → 0 < c → HasValue x true a c → to_signed 63 x ≡ held (neg_ℤ (pos (a / c)))
unfolding to_signed
cut-neg nan a c C v = absurd v
cut-neg (inf t) a c C v = absurd v
cut-neg (fin false m e) a c C v = absurd (false≢true v.0)
cut-neg (fin true m e) a c C v = ap (λ (q : ℕ). neg_ℤ (pos (min q (2 ^ 63)))) (div_same (m * up e) (down e) a c (down_pos e) C v.1) ∙ held-neg (a / c)

-- ---- the sum: the product is n / 2 ^ 126, so over the same D the two addends are A / D and B / D
module _ (n A D : ℕ) (D-pos : 0 < D) (is : A * 2 ^ 126 ≡ n * D) (small : n < 2 ^ 280) where
  abbrev B : ℕ
  B = 134217728 * D

  B-is : B * 2 ^ 126 ≡ 2 ^ 153 * D
  B-is = mul_right_comm 134217728 D (2 ^ 126)

  less : (a b c d : ℕ) → a * 2 ^ 126 ≡ c * D → b * 2 ^ 126 ≡ d * D → (a - b) * 2 ^ 126 ≡ (c - d) * D
  less a b c d p q = rw (mul_comm (a - b), mul-sub, mul_comm (2 ^ 126) a, mul_comm (2 ^ 126) b, p, q, mul_comm c, mul_comm d, ← mul-sub, mul_comm D)

  lt-there : (a b c d : ℕ) → a * 2 ^ 126 ≡ c * D → b * 2 ^ 126 ≡ d * D → a < b → c < d
  lt-there a b c d p q h = lt_of_mul-lt-mul_right D (rw (← p, ← q) (mul-lt-mul_of_pos_right h (lit< tt)))

  rounded : (s : Bool) (a b : ℕ) → a * 2 ^ 126 ≡ b * D → b < 2 ^ 300 → HasValue (round binary64 s a D) s (round_to 53 b) (2 ^ 126)
  rounded s a b e h = rw (round_same binary64 s a D b (2 ^ 126) D-pos (lit< tt) e) (round-below binary64 126 948 refl s b 300 h (lit< tt) (lit< tt))

  plus : to_signed 63 (sum binary64 false A false B D) ≡ held (cut_sum false n)
  unfolding sum cut_sum
  plus = cut-pos _ _ _ (lit< tt) (rounded false (A + B) (2 ^ 153 + n) (rw (add-mul, is, B-is, add_comm, add-mul)) (lt_of_lt_of_le (grow (2 ^ 153) small) (lit≤ tt)))
    where
      grow : (p : ℕ) {a b : ℕ} → a < b → p + a < p + b
      grow p h = omega arith

  under : n ≤ 2 ^ 153 → to_signed 63 (round binary64 false (B - A) D) ≡ held (cut_sum true n)
  unfolding cut_sum
  under h =
      cut-pos _ _ _ (lit< tt) (rounded false (B - A) (2 ^ 153 - n) (less B A (2 ^ 153) n B-is is) (lt_of_le_of_lt (sub-le (2 ^ 153) n) (lit< tt)))
      ∙ ap held (above _ _ _ _ _ h refl)

  over : 2 ^ 153 < n → to_signed 63 (round binary64 true (A - B) D) ≡ held (cut_sum true n)
  unfolding cut_sum
  over h =
      cut-neg _ _ _ (lit< tt) (rounded true (A - B) (n - 2 ^ 153) (less A B n (2 ^ 153) is B-is) (lt_of_le_of_lt (sub-le n (2 ^ 153)) (lt_of_lt_of_le small (lit≤ tt))))
      ∙ ap held (below _ _ _ _ _ h refl)

  no_gap : (a b : ℕ) → a ≤ b → b ≤ a → a - b ≡ b - a
  no_gap a b h k = omega arith

  minus : to_signed 63 (sum binary64 true A false B D) ≡ held (cut_sum true n)
  unfolding sum
  minus = go (ltb A B) (ltb B A) (ltb→lt A B) (nltb→le A B) (ltb→lt B A) (nltb→le B A)
    where
      go : (a b : Bool) → (T a → A < B) → (T (not a) → B ≤ A) → (T b → B < A) → (T (not b) → A ≤ B)
          → to_signed 63 (cond a (round binary64 false (B - A) D) (round binary64 b (A - B) D)) ≡ held (cut_sum true n)
      go true b p q r s = under (le_of_lt (lt-there A B n (2 ^ 153) is B-is (p tt)))
      go false true p q r s = over (lt-there B A (2 ^ 153) n B-is is (r tt))
      go false false p q r s =
          let lo : A ≤ B = s tt in
          let hi : B ≤ A = q tt in
          let e : A - B ≡ B - A = no_gap A B lo hi in
          let h : n ≤ 2 ^ 153 = le_of_mul-le-mul_right (rw (← is, ← B-is) (mul-le-mul_right (2 ^ 126) lo)) D-pos in
          ap (λ (z : ℕ). to_signed 63 (round binary64 false z D)) e ∙ under h

-- ---- a finite pattern
sum-val : (y : Float) (s : Bool) (n : ℕ) → n < 2 ^ 280 → HasValue y s n (2 ^ 126) → to_signed 63 (add binary64 y (fin false 1 (pos 27))) ≡ held (cut_sum s n)
unfolding add
sum-val nan s n h v = absurd v
sum-val (inf t) s n h v = absurd v
sum-val (fin t m e) s n h v = rw (v.0, mul-one (m * up e), mul-one (down e)) (by_sign s)
  where
    by_sign : (s : Bool) → to_signed 63 (sum binary64 s (m * up e) false (134217728 * down e) (down e)) ≡ held (cut_sum s n)
    by_sign false = plus n (m * up e) (down e) (down_pos e) v.1 h
    by_sign true = minus n (m * up e) (down e) (down_pos e) v.1 h

pub value-agrees : (x : Float) (s : Bool) (n q k : ℕ) → q < 2 ^ 24 → k < 254 → n ≡ q * 2 ^ k → HasValue x s n (2 ^ 149) → encoded_by x ≡ held (cut_sum s n)
value-agrees x s n q k Q K is v =
    sum-val (mul binary64 x (fin false 1 (pos 23))) s n
    (rw is (lt_of_lt_of_le (shl_lt 24 k Q) (pow_mono {i = 24 + k} {j = 280} (omega arith))))
    (mul_val x s n q k Q K is v)

-- an exponent that is not 255 is a finite number's, of at most 24 digits and zeros after them
pub record Finite (s : Bool) (x t : ℕ) : Type 0 where
  pub head : ℕ
  pub few : head < 2 ^ 24
  pub size_is : magnitude x t ≡ head * 2 ^ (x - 1)
  pub value : HasValue (of_fields binary32 s x t) s (magnitude x t) (2 ^ 149)

pub is_finite : (s : Bool) (x t : ℕ) → x < 255 → t < 2 ^ 23 → Finite s x t
unfolding of_fields magnitude
is_finite s zero t X H = record { head = t; few = omega arith; size_is = sym (mul-one t); value = rw mul-one at (odd_sign 24 s t 0 149) }
is_finite s (suc x) t X H =
    record {
      head = 2 ^ 23 + t;
      few = led t H;
      size_is = let e : suc x - 1 ≡ x = omega arith in rw e;
      value =
          rw (cond_no (eqb (suc x) 255) (cond (eqb t 0) (inf s) nan) (odd 24 s (2 ^ 23 + t) x 149) (not_T (eqb (suc x) 255) (λ (u : T (eqb (suc x) 255)). let e = eqb→eq (suc x) 255 u in omega arith)))
          (odd_sign 24 s (2 ^ 23 + t) x 149);
    }

infinity-agrees : (s : Bool) → encoded_by (inf s) ≡ range_end s
unfolding mul add to_signed
infinity-agrees true = refl
infinity-agrees false = refl

nan-agrees : encoded_by nan ≡ pos 0
unfolding mul add to_signed
nan-agrees = refl

-- the exponent 255 is an infinity's, or a NaN's
pub is-infinite : (s : Bool) (t : ℕ) → t ≡ 0 → of_fields binary32 s 255 t ≡ inf s
unfolding of_fields
is-infinite s t e = rw e refl

pub is-nan : (s : Bool) (t : ℕ) → (t ≡ 0 → ⊥) → of_fields binary32 s 255 t ≡ nan
unfolding of_fields
is-nan s t n = cond_no (eqb t 0) (inf s) nan (not_T (eqb t 0) (λ (u : T (eqb t 0)). n (eqb→eq t 0 u)))

special : (s : Bool) (t : ℕ) → encoded_by (of_fields binary32 s 255 t) ≡ encoded s 255 t
special s t = go (ℕ_discrete t 0)
  where
    go : Dec (t ≡ 0) → encoded_by (of_fields binary32 s 255 t) ≡ encoded s 255 t
    go (yes e) = rw (is-infinite s t e) (infinity-agrees s ∙ sym (infinite s 255 t refl e))
    go (no n) = rw (is-nan s t n) (nan-agrees ∙ sym (no_number s 255 t refl n))

pub fields-agree : (s : Bool) (x t : ℕ) → x < 256 → t < 2 ^ 23 → encoded_by (of_fields binary32 s x t) ≡ encoded s x t
fields-agree s x t X H = go (ℕ_discrete x 255)
  where
    go : Dec (x ≡ 255) → encoded_by (of_fields binary32 s x t) ≡ encoded s x t
    go (yes e) = rw e (special s t)
    go (no n) =
        let h : x < 255 = omega arith in
        let f = is_finite s x t h H in
        value-agrees (of_fields binary32 s x t) s (magnitude x t) f.head (x - 1) f.few (omega arith) f.size_is f.value ∙ sym (finite s x t h)

-- the code of a pattern is what the Rust makes of the pattern's value
pub pattern-agrees : (b : ℕ) → code_of b ≡ code_by (of_bits binary32 b)
unfolding code_of of_bits
pattern-agrees b =
    ap code_word (sym (fields-agree (negative b) (exponent b) (fraction b) (mod-lt (b / 2 ^ 23) (lit< tt)) (mod-lt b (lit< tt))))
    ∙ ap (λ (x : ℕ). code_word (encoded_by (of_fields binary32 (negative b) x (fraction b)))) (sym (field b 8 23))

-- and the code of a float, NaN included, what it makes of the float
pub from-agrees : (x : Float) → T (fits binary32 x) → code_of (to_bits binary32 x) ≡ code_by x
from-agrees x h = pattern-agrees (to_bits binary32 x) ∙ ap code_by (of_bits-to_bits binary32 x h)
