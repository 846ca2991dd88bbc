-- Digits of either case, two for a byte: in capitals they spell the same bytes, and bytes have no other digits.
use Prim.Native.Nat.{ℕ, zero, suc, ◌+◌, ◌*◌, ◌-◌, ◌/◌, ◌%◌, ◌≤◌, ◌<◌}
use mathlib.Core.Path.{◌≡◌, refl, sym, ap, ◌∙◌}
use mathlib.Core.Bool.{true, false}
use mathlib.Core.Logic.{◌⊎◌, inl, inr}
use mathlib.Core.List.{List, [], ◌∷◌}
use native.Mathlib.Nat.{div-one}
use native.Mathlib.Omega.{arith}
use lib.Dec.{lit<}
use lib.ListN.{length}
use Rattle.octets.specs.Choice.{if_lt}
use Rattle.octets.specs.Number.{Octets}
use Rattle.octets.proofs.Choosing.{below, above, other, either_lt, lt-or-le, missed}
use Rattle.text.specs.Digits.{hex_digit, hex_digits, pairs_of, digit_value}
use Rattle.text.specs.Read.{not_digits, pairs_in}
use Rattle.text.proofs.Back.{hex-back}
use Rattle.intel_hex.specs.Format.{capital, capitals}

-- ---- one byte
module _ (b : ℕ) where
  pub kept_low : b < 97 → capital b ≡ b
  kept_low h = sym (below _ _ _ _ _ h refl)

  raised : 97 ≤ b → b ≤ 122 → capital b ≡ b - 32
  raised h g = sym (above _ _ _ _ _ h (above _ _ _ _ _ g refl))

  kept_high : 122 < b → capital b ≡ b
  kept_high h = sym (above _ _ _ _ _ (omega arith) (below _ _ _ _ _ h refl))

  -- what is below `A` was no letter
  pub was-low : (k : ℕ) → k < 65 → capital b ≡ k → b ≡ k
  was-low k h =
      either_lt (λ (c : ℕ). c ≡ k → b ≡ k) _ _ _ _ (λ g e. e)
      (λ g. either_lt (λ (c : ℕ). c ≡ k → b ≡ k) _ _ _ _ (λ m e. e) (λ m e. omega arith))

  -- a digit is that of its value, in capitals
  pub spells : (digit_value b ≡ 16) ⊎ ((digit_value b < 16) × (hex_digit (digit_value b) ≡ capital b))
  unfolding digit_value
  spells =
      either_lt P _ _ _ _ (λ h. inl refl) (λ h. either_lt P _ _ _ _ (λ g. inr (omega arith, sym (below _ _ _ _ _ (omega arith) (kept_low (omega arith) ∙ omega arith))))
      (λ g. either_lt P _ _ _ _ (λ k. inl refl) (λ k. either_lt P _ _ _ _ (λ m. inr (omega arith, sym (above _ _ _ _ _ (omega arith) (kept_low (omega arith) ∙ omega arith))))
      (λ m. either_lt P _ _ _ _ (λ n. inl refl) (λ n. either_lt P _ _ _ _ (λ o. inr (omega arith, sym (above _ _ _ _ _ (omega arith) (raised n (omega arith) ∙ omega arith))))
      (λ o. inl refl))))))
    where
      P : ℕ → Type 0
      P v = (v ≡ 16) ⊎ ((v < 16) × (hex_digit v ≡ capital b))

-- from `A` on
from-a : (b v : ℕ) → 65 ≤ b → v ≡ if_lt b 71 (b - 55) (if_lt b 97 16 (if_lt b 103 (b - 87) 16)) → v ≡ digit_value b
unfolding digit_value
from-a b v h e = above _ _ _ _ _ (omega arith) (above _ _ _ _ _ (omega arith) (above _ _ _ _ _ h e))

-- a small letter is worth what its capital is
pub value-capital : (b : ℕ) → digit_value (capital b) ≡ digit_value b
value-capital b =
    either_lt (λ (c : ℕ). digit_value c ≡ digit_value b) _ _ _ _ (λ h. refl)
    (λ h. either_lt (λ (c : ℕ). digit_value c ≡ digit_value b) _ _ _ _ (λ g. refl) (λ g. small h g (lt-or-le b 103)))
  where
    small : 97 ≤ b → b ≤ 122 → (b < 103) ⊎ (103 ≤ b) → digit_value (b - 32) ≡ digit_value b
    small h g (inl k) =
        sym (from-a (b - 32) (b - 87) (omega arith) (below _ _ _ _ _ (omega arith) (omega arith)))
        ∙ from-a b (b - 87) (omega arith) (above _ _ _ _ _ (omega arith) (above _ _ _ _ _ h (below _ _ _ _ _ k refl)))
    small h g (inr k) =
        sym (from-a (b - 32) 16 (omega arith) (above _ _ _ _ _ (omega arith) (below _ _ _ _ _ (omega arith) refl)))
        ∙ from-a b 16 (omega arith) (above _ _ _ _ _ (omega arith) (above _ _ _ _ _ h (above _ _ _ _ _ k refl)))

-- ---- many
pub length-capitals : (l : List ℕ) → length (capitals l) ≡ length l
unfolding capitals
length-capitals [] = refl
length-capitals (b ∷ l) = ap suc (length-capitals l)

pub digits-capitals : (l : List ℕ) → not_digits (capitals l) ≡ not_digits l
unfolding capitals not_digits
digits-capitals [] = refl
digits-capitals (b ∷ l) = rw (value-capital b, digits-capitals l)

pub pairs-capitals : (l : List ℕ) → pairs_in (capitals l) ≡ pairs_in l
unfolding capitals pairs_in
pairs-capitals [] = refl
pairs-capitals (a ∷ []) = refl
pairs-capitals (a ∷ b ∷ l) = rw (value-capital a, value-capital b, pairs-capitals l)

-- ---- digits alone
abbrev Digit : ℕ → Type 0
Digit b = (digit_value b < 16) × (hex_digit (digit_value b) ≡ capital b)

true-false : true ≡ false → ⊥
true-false e = let z : ◌≡◌ {A = ℕ} 0 1 = cc in omega arith

first-digit : (b : ℕ) (l : List ℕ) → not_digits (b ∷ l) ≡ false → Digit b × (not_digits l ≡ false)
unfolding not_digits
first-digit b l e =
    let m = missed (digit_value b) 16 _ _ _ true-false e in
    (go m.0 (spells b), m.1)
  where
    go : (digit_value b ≡ 16 → ⊥) → (digit_value b ≡ 16) ⊎ Digit b → Digit b
    go n (inl h) = absurd (n h)
    go n (inr h) = h

-- the bytes that they spell, and their digits
pub octets-in : (l : List ℕ) → not_digits l ≡ false → Octets (pairs_in l)
unfolding pairs_in
octets-in [] e i = lit< tt
octets-in (a ∷ []) e i = lit< tt
octets-in (a ∷ b ∷ l) e zero =
    let one = first-digit a (b ∷ l) e in
    omega (arith, one.0.0, (first-digit b l one.1).0.0)
octets-in (a ∷ b ∷ l) e (suc i) = octets-in l (first-digit b l (first-digit a (b ∷ l) e).1).1 i

pub pairs-again : (l : List ℕ) → not_digits l ≡ false → (length l % 2 ≡ 1 → ⊥) → pairs_of (pairs_in l) ≡ capitals l
unfolding pairs_in pairs_of hex_digits capitals
pairs-again [] e even = refl
pairs-again (a ∷ []) e even = absurd (even refl)
pairs-again (a ∷ b ∷ l) e even =
    let one = first-digit a (b ∷ l) e in
    let two = first-digit b l one.1 in
    let high : (digit_value a * 16 + digit_value b) / 16 % 16 ≡ digit_value a = omega (arith, one.0.0, two.0.0) in
    let low : (digit_value a * 16 + digit_value b) % 16 ≡ digit_value b = omega (arith, one.0.0, two.0.0) in
    rw (div-one, high, low, one.0.1, two.0.1, pairs-again l two.1 (λ (h : length l % 2 ≡ 1). even (omega arith)))

-- bytes as digits have nothing else
pub digits-alone : (l : List ℕ) → Octets l → not_digits (pairs_of l) ≡ false
unfolding not_digits pairs_of hex_digits
digits-alone [] h = refl
digits-alone (b ∷ l) h =
    rw (div-one, hex-back (b / 16 % 16) (omega arith), hex-back (b % 16) (omega arith))
    (sym (other _ _ _ _ _ (λ e. omega arith) (other _ _ _ _ _ (λ e. omega arith) (sym (digits-alone l (λ i. h (suc i)))))))
