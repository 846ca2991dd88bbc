-- A number that is written and read is the number, and so are bytes; and a few words as they stand.
use Rattle.std.specs.Prelude.{Option, Some, None}
use Prim.Native.Nat.{ℕ, zero, suc, ◌+◌, ◌*◌, ◌/◌, ◌%◌, ◌≤◌, ◌<◌}
use mathlib.Core.Path.{◌≡◌, refl, sym}
use mathlib.Core.Logic.{◌⊎◌, inl, inr}
use mathlib.Core.List.{List, [], ◌∷◌, ◌++◌}
use native.Mathlib.Nat.{div-one}
use native.Mathlib.Omega.{arith}
use Rattle.octets.specs.Number.{Octets}
use Rattle.octets.specs.Choice.{if_lt, if_eq}
use Rattle.octets.proofs.Choosing.{below, above, other, if-of, lt-or-le}
use Rattle.text.specs.Digits.{leading, decimal, hex_digit, hex_digits, pairs_of, digit_value}
use Rattle.text.specs.Read.{spelled, number_in, decimal_in, word_in, pairs_in}
use Rattle.text.proofs.Digits.{front, front-none, front-step, decimal_step, decimal-length}

-- ---- decimals
digit-back : (d : ℕ) → d < 10 → digit_value (48 + d) ≡ d
unfolding digit_value
digit-back d h = sym (above _ _ _ _ _ (omega arith) (below _ _ _ _ _ (omega arith) (omega arith)))

abbrev more : ℕ → ℕ → Option ℕ → Option ℕ
more base b (Some n) = if_lt (digit_value b) base (Some (n * base + digit_value b)) None
more base b None = None

-- the last digit
spelled-snoc : (base n : ℕ) (l : List ℕ) (b : ℕ) → spelled base n (l ++ (b ∷ [])) ≡ more base b (spelled base n l)
unfolding spelled
spelled-snoc base n [] b = refl
spelled-snoc base n (a ∷ l) b =
    rw (spelled-snoc base (n * base + digit_value a) l b) (sym (if-of (more base b) (digit_value a) base (spelled base (n * base + digit_value a) l) None))

one_more : (n : ℕ) (l : List ℕ) → spelled 10 0 l ≡ Some (n / 10) → spelled 10 0 (l ++ ((48 + n % 10) ∷ [])) ≡ Some n
one_more n l e =
    let d = digit-back (n % 10) (omega arith) in
    let whole : n / 10 * 10 + n % 10 ≡ n = omega arith in
    rw (spelled-snoc, e, d, whole) (sym (below _ _ _ _ _ (omega arith) refl))

front-back : (k n : ℕ) → n ≤ k → spelled 10 0 (front n) ≡ Some n
unfolding spelled
front-back zero n h = let z : n ≡ 0 = omega arith in rw (z, front-none)
front-back (suc k) zero h = rw front-none
front-back (suc k) (suc n) h = rw (front-step (suc n) (omega arith)) (one_more (suc n) (front (suc n / 10)) (front-back k (suc n / 10) (omega arith)))

pub decimal-back : (n : ℕ) → n < 4294967296 → decimal_in (decimal n) ≡ Some n
unfolding number_in
decimal-back n h =
    let e = one_more n (front (n / 10)) (front-back n (n / 10) (omega arith)) in
    sym (other _ _ _ _ _ (λ z. omega (arith, decimal-length n)) (rw (decimal_step n, e) (below _ _ _ _ _ h refl)))

-- ---- pairs
pub hex-back : (d : ℕ) → d < 16 → digit_value (hex_digit d) ≡ d
unfolding digit_value
hex-back d h = go (lt-or-le d 10)
  where
    go : (d < 10) ⊎ (10 ≤ d) → digit_value (hex_digit d) ≡ d
    go (inl g) = rw (← below d 10 (48 + d) (55 + d) (48 + d) g refl) (digit-back d g)
    go (inr g) = rw (← above d 10 (48 + d) (55 + d) (55 + d) g refl) (sym (above _ _ _ _ _ (omega arith) (above _ _ _ _ _ (omega arith) (above _ _ _ _ _ (omega arith) (below _ _ _ _ _ (omega arith) (omega arith))))))

pub pairs-back : (l : List ℕ) → Octets l → pairs_in (pairs_of l) ≡ l
unfolding pairs_in pairs_of hex_digits
pairs-back [] h = refl
pairs-back (b ∷ l) h =
    let byte : b < 256 = h 0 in
    let whole : b / 16 % 16 * 16 + b % 16 ≡ b = omega arith in
    rw (div-one, hex-back (b / 16 % 16) (omega arith), hex-back (b % 16) (omega arith), whole, pairs-back l (λ i. h (suc i)))

-- ---- words
-- `0`, `255`, `007`, `0Fa0`
decimal-0 : decimal 0 ≡ 48 ∷ []
unfolding decimal leading
decimal-0 = refl

decimal-255 : decimal 255 ≡ 50 ∷ 53 ∷ 53 ∷ []
unfolding decimal leading if_eq
decimal-255 = refl

seven : decimal_in (48 ∷ 48 ∷ 55 ∷ []) ≡ Some 7
unfolding number_in spelled digit_value if_eq if_lt
seven = refl

pairs-0fa0 : pairs_of (15 ∷ 160 ∷ []) ≡ 48 ∷ 70 ∷ 65 ∷ 48 ∷ []
unfolding pairs_of hex_digits if_lt
pairs-0fa0 = refl

bytes-0fa0 : pairs_in (48 ∷ 70 ∷ 97 ∷ 48 ∷ []) ≡ 15 ∷ 160 ∷ []
unfolding pairs_in digit_value if_lt
bytes-0fa0 = refl

-- `FFFFFFFF`, and one more than it in decimal
largest : word_in (70 ∷ 70 ∷ 70 ∷ 70 ∷ 102 ∷ 102 ∷ 102 ∷ 102 ∷ []) ≡ Some 4294967295
unfolding number_in spelled digit_value if_eq if_lt
largest = refl

too_much : decimal_in (52 ∷ 50 ∷ 57 ∷ 52 ∷ 57 ∷ 54 ∷ 55 ∷ 50 ∷ 57 ∷ 54 ∷ []) ≡ None
unfolding number_in spelled digit_value if_eq if_lt
too_much = refl
