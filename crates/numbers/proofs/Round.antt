-- `round_to`: where it changes nothing, that it keeps the order, and that it is the rounding of `lib.Ieee` at binary64.
use Rattle.std.proofs.Common.{◌≡◌, ℕ, suc, ◌+◌, ◌-◌, ◌*◌, ◌/◌, ◌%◌, ◌^◌, ◌<◌, ◌≤◌, Bool, true, false, not, T, ltb, sym, ap, ◌∙◌, subst, inl, inr, le_trans, le_of_eq, lt_of_lt_of_le, le_of_suc-le-suc, lt_of_le_of_lt, le_of_lt, mul-le-mul_right, mul_assoc, eq-or-lt_of_le, mul-pos, one-mul, lt_of_not-le, le-div_iff_mul-le, mul-one, mul_right_comm, not-le_of_lt, div-one, mul-div_cancel, arith, lit<, ltb→lt, nltb→le, pow_pos, pow_mono, pow-add, shl_lt}
use Prim.Native.Nat.{compare}
use native.Mathlib.Nat.{eq_of_mul-eq-mul_right}
use lib.Pow.{pow-lt}
use lib.Ieee.{Float, nan, inf, fin, Format, prec, low, emax, up, down, size, nearest, units, round}
use lib.Ieee.Digits.{size-lt, size-le, size_reaches, back}
use lib.Ieee.Nearest.{closest, closest_same, closest_mono, nearest-ge}
use lib.Ieee.Exact.{HasValue, round_exact, units_val}
use lib.Ieee.Fits.{round_is, nearest-le, kept-lt}
use lib.Ieee.Order.{drop, kept}
use lib.Ieee.Scale.{round_same, grid, grid_scale, overflow}
use Rattle.numbers.specs.Pattern.{round_to}

mod-one : (n : ℕ) → n % 1 ≡ 0
mod-one n = omega arith

closest-one : (n : ℕ) → closest n 1 ≡ n
closest-one n = ap (λ (x : ℕ). nearest x (compare (n % 1 * 2) 1)) (div-one n) ∙ ap (λ (x : ℕ). nearest n (compare (x * 2) 1)) (mod-one n)

closest-whole : (r k : ℕ) → closest (r * 2 ^ k) (2 ^ k) ≡ r
closest-whole r k = closest_same (r * 2 ^ k) (2 ^ k) r 1 (pow_pos k) (lit< tt) (mul-one (r * 2 ^ k)) ∙ closest-one r

spare : (p z j : ℕ) → z ≤ p + j → z - p ≤ j
spare p z j h = omega arith

-- ---- a number of at most p digits, and zeros after them, stays
pub round_to-exact : (p n q j : ℕ) → n ≡ q * 2 ^ j → q < 2 ^ p → round_to p n ≡ n
unfolding round_to
round_to-exact p n q j e h =
    let k = size n - p in
    let k-le : k ≤ j = spare p (size n) j (size-le n (p + j) (subst (λ (x : ℕ). x < 2 ^ (p + j)) (sym e) (shl_lt p j h))) in
    let r = q * 2 ^ (j - k) in
    let is : n ≡ r * 2 ^ k = e ∙ sym (mul_assoc q (2 ^ (j - k)) (2 ^ k) ∙ ap (λ (x : ℕ). q * x) (sym (pow-add 2 (j - k) k) ∙ ap (λ (x : ℕ). 2 ^ x) (back j k k-le))) in
    ap (λ (x : ℕ). closest x (2 ^ k) * 2 ^ k) is ∙ ap (λ (x : ℕ). x * 2 ^ k) (closest-whole r k) ∙ sym is

-- ---- the order
fewer : (p x y : ℕ) → x ≤ y → x - p ≤ y - p
fewer p x y h = omega arith

inside : (p z j : ℕ) → 0 < p → j < z - p → p - 1 + (z - p) < z
inside p z j P h = omega arith

room : (p j k : ℕ) → 0 < p → j < k → p + j ≤ p - 1 + k
room p j k P h = omega arith

pub round_to-mono : (p a b : ℕ) → 0 < p → a ≤ b → round_to p a ≤ round_to p b
unfolding round_to
round_to-mono p a b P h =
    let j = size a - p in
    let k = size b - p in
    elim (eq-or-lt_of_le (fewer p (size a) (size b) (size-le a (size b) (lt_of_le_of_lt h (size-lt b))))) [
      | inl e ↦
          subst (λ (x : ℕ). closest a (2 ^ x) * 2 ^ x ≤ closest b (2 ^ k) * 2 ^ k) (sym e)
          (mul-le-mul_right (2 ^ k) (closest_mono a (2 ^ k) b (2 ^ k) (pow_pos k) (pow_pos k) (mul-le-mul_right (2 ^ k) h)))
      | inr l ↦
          le_trans (mul-le-mul_right (2 ^ j) (le_trans (nearest-le (a / 2 ^ j) (compare (a % 2 ^ j * 2) (2 ^ j))) (kept-lt p a)))
          (le_trans (le_of_eq (sym (pow-add 2 p j)))
          (le_trans (pow_mono (room p j k P l))
          (le_trans (le_of_eq (pow-add 2 (p - 1) k))
          (mul-le-mul_right (2 ^ k)
          (le_trans ((le-div_iff_mul-le (pow_pos k)).1 (le_trans (le_of_eq (sym (pow-add 2 (p - 1) k))) (size_reaches b (p - 1 + k) (inside p (size b) j P l))))
          (nearest-ge (b / 2 ^ k) (compare (b % 2 ^ k * 2) (2 ^ k))))))))
    ]

-- ---- against `lib.Ieee`
pub rescale : (x : Float) (s : Bool) (a c b d : ℕ) → 0 < c → b * c ≡ a * d → HasValue x s a c → HasValue x s b d
rescale nan s a c b d p h v = v
rescale (inf t) s a c b d p h v = v
rescale (fin t m e) s a c b d p h v = (
  v.0,
  eq_of_mul-eq-mul_right c p (m * up e * d) (b * down e)
      (mul_right_comm (m * up e) d c
      ∙ ap (λ (x : ℕ). x * d) v.1
      ∙ mul_right_comm a (down e) d
      ∙ ap (λ (x : ℕ). x * down e) (sym h)
      ∙ mul_right_comm b c (down e)),
)

-- in units of the format's smallest value, as the fraction n / 2 ^ low
grid-one : (f : Format) (n : ℕ) → grid f n (2 ^ low f) ≡ round_to (prec f) n
unfolding round_to
grid-one f n =
    let l = 2 ^ low f in
    let q : n * l / l ≡ n = mul-div_cancel n (pow_pos (low f)) in
    let k = size n - prec f in
    ap (λ (z : ℕ). closest (n * l) (l * 2 ^ (size z - prec f)) * 2 ^ (size z - prec f)) q
    ∙ ap (λ (z : ℕ). z * 2 ^ k) (closest_same (n * l) (l * 2 ^ k) n (2 ^ k) (mul-pos (pow_pos (low f)) (pow_pos k)) (pow_pos k) (mul_assoc n l (2 ^ k)))

digits : (p n : ℕ) → 2 ^ p ≤ n → p ≤ size n
digits p n l = le_of_suc-le-suc (lt_of_not-le (λ (g : suc (size n) ≤ p). not-le_of_lt (lt_of_lt_of_le (size-lt n) (pow_mono {i = size n} {j = p} (le_of_lt g))) l))

-- The value of the format that is nearest to n / 2 ^ e, where that stays below the overflow.
module _ (f : Format) (e l : ℕ) (is : low f ≡ l + e) where
  shifted : (n : ℕ) → n * 2 ^ low f ≡ n * 2 ^ l * 2 ^ e
  shifted n = ap (λ (k : ℕ). n * 2 ^ k) is ∙ ap (λ (x : ℕ). n * x) (pow-add 2 l e) ∙ sym (mul_assoc n (2 ^ l) (2 ^ e))

  -- a fraction a / b that is n / 2 ^ e, with n of few enough digits, is rounded to itself
  pub round-to : (s : Bool) (a b n q j : ℕ) → 0 < b → q < 2 ^ prec f → prec f + (j + l) ≤ low f + suc (emax f) → n ≡ q * 2 ^ j → a * 2 ^ e ≡ n * b
      → HasValue (round f s a b) s n (2 ^ e)
  round-to s a b n q j B Q J n-is h =
      rw (round_same f s a b n (2 ^ e) B (pow_pos e) h)
      (round_exact f s n (2 ^ e) q (j + l) (pow_pos e) Q (lt_of_lt_of_le (shl_lt (prec f) (j + l) Q) (pow_mono J))
      (shifted n ∙ ap (λ (k : ℕ). k * 2 ^ l * 2 ^ e) n-is ∙ rw (pow-add 2 j l, mul_assoc q)))

  pub round_val : (s : Bool) (n : ℕ) → n * 2 ^ l < overflow f → round_to (prec f) n * 2 ^ l < overflow f → HasValue (round f s n (2 ^ e)) s (round_to (prec f) n) (2 ^ e)
  round_val s n h h' = go (ltb n (2 ^ prec f)) (ltb→lt n (2 ^ prec f)) (nltb→le n (2 ^ prec f))
    where
      small : n < 2 ^ prec f → HasValue (round f s n (2 ^ e)) s (round_to (prec f) n) (2 ^ e)
      small b =
          subst (λ (a : ℕ). HasValue (round f s n (2 ^ e)) s a (2 ^ e)) (sym (round_to-exact (prec f) n n 0 (sym (mul-one n)) b))
          (round_exact f s n (2 ^ e) n l (pow_pos e) b h (shifted n))

      large : 2 ^ prec f ≤ n → HasValue (round f s n (2 ^ e)) s (round_to (prec f) n) (2 ^ e)
      large b =
          let a = n * 2 ^ l in
          let L = 2 ^ low f in
          let L-pos : 0 < L = pow_pos (low f) in
          let g : grid f a L ≡ round_to (prec f) n * 2 ^ l =
          grid_scale f n L l L-pos (subst (λ (z : ℕ). prec f ≤ size z) (sym (mul-div_cancel n L-pos)) (digits (prec f) n b)) ∙ ap (λ (z : ℕ). z * 2 ^ l) (grid-one f n) in
          rescale (round f s n (2 ^ e)) s (round_to (prec f) n * 2 ^ l) L (round_to (prec f) n) (2 ^ e) L-pos (shifted (round_to (prec f) n))
          (subst (λ (x : Float). HasValue x s (round_to (prec f) n * 2 ^ l) L)
          (sym (round_same f s n (2 ^ e) a L (pow_pos e) L-pos (shifted n) ∙ round_is f s a L))
          (subst (λ (z : ℕ). HasValue (units f s (kept (prec f) (a * L) L) (drop (prec f) (a * L) L)) s z L) g
          (units_val f s (kept (prec f) (a * L) L) (drop (prec f) (a * L) L)
          (subst (λ (z : ℕ). z < overflow f) (sym g) h'))))

      go : (b : Bool) → (T b → n < 2 ^ prec f) → (T (not b) → 2 ^ prec f ≤ n) → HasValue (round f s n (2 ^ e)) s (round_to (prec f) n) (2 ^ e)
      go true a b = small (a tt)
      go false a b = large (b tt)

  -- the same, of an n below 2 ^ k
  pub round-below : (s : Bool) (n k : ℕ) → n < 2 ^ k → 0 < prec f → k + l < low f + suc (emax f) → HasValue (round f s n (2 ^ e)) s (round_to (prec f) n) (2 ^ e)
  round-below s n k h P K =
      let top : round_to (prec f) n ≤ 2 ^ k = rw (round_to-exact (prec f) (2 ^ k) 1 k (sym (one-mul (2 ^ k))) (pow-lt {i = 0} {j = prec f} P)) at (round_to-mono (prec f) n (2 ^ k) P (le_of_lt h)) in
      let room : 2 ^ k * 2 ^ l < overflow f = rw (← pow-add 2 k l) (pow-lt K) in
      round_val s n (lt_of_le_of_lt (mul-le-mul_right (2 ^ l) (le_of_lt h)) room) (lt_of_le_of_lt (mul-le-mul_right (2 ^ l) top) room)
