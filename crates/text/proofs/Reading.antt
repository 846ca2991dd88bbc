-- Laws of words that are read digit by digit, from a place on.
use Prim.Native.Nat.{ℕ, zero, suc, ◌+◌, ◌*◌, ◌/◌, ◌≤◌, ◌<◌}
use mathlib.Core.Path.{◌≡◌, refl, sym, ap, ◌∙◌}
use mathlib.Core.Bool.{Bool, true, false}
use mathlib.Core.List.{List, [], ◌∷◌}
use native.Mathlib.Nat.{mul-le-mul, le-mul_of_pos_right}
use native.Mathlib.Numerals.{add-one}
use native.Mathlib.Omega.{arith}
use lib.ListN.{length, take, drop, set, get_or, drop_of_length-le}
use lib.Seq.{drop-cons, take-suc, length-take-le}
use Rattle.std.proofs.Common.{cond, not, ◌||◌, position, Option, None, Some}
use Rattle.std.specs.List.{list_any, position_or_len}
use Rattle.std.specs.Option.{unwrap_or}
use Rattle.std.proofs.lemmas.List.Recursion.{is_position_or_len}
use lib.Dec.{eqb, ltb}
use borrow.Author.Tests.{ltb-false}
use Rattle.std.proofs.lemmas.List.Sums.{prefix_len-le-length}
use Rattle.octets.specs.Choice.{pick, if_eq}
use Rattle.octets.specs.Over.{over}
use Rattle.octets.proofs.Choosing.{below, above, same, either_lt, missed}
use Rattle.octets.proofs.Overlay.{over-snoc}
use Rattle.text.specs.Digits.{digit_value}
use Rattle.text.specs.Read.{spelled, small, not_digits, pairs_in}
use Rattle.text.specs.Lines.{until_of, run_of}

-- what is left from a place on
next : (l : List ℕ) (i : ℕ) → i < length l → drop i l ≡ get_or l i 0 ∷ drop (i + 1) l
next l i h = rw add-one (drop-cons l i 0 h)

-- ---- numbers
module _ (base n : ℕ) (l : List ℕ) (i d : ℕ) (h : i < length l) (e : d ≡ digit_value (get_or l i 0)) where
  pub digit-more : d < base → spelled base n (drop i l) ≡ spelled base (n * base + d) (drop (i + 1) l)
  unfolding spelled
  digit-more g = rw (next l i h, e) (sym (below _ _ _ _ _ (omega arith) refl))

  pub digit-bad : base ≤ d → None ≡ small (spelled base n (drop i l))
  unfolding spelled
  digit-bad g = rw (next l i h) (ap small (above _ _ _ _ _ (omega arith) refl))

-- a number that is too large stays so
pub too_large_lem : (base n : ℕ) (l : List ℕ) → 1 ≤ base → 4294967296 ≤ n → None ≡ small (spelled base n l)
unfolding spelled
too_large_lem base n [] h g = above _ _ _ _ _ g refl
too_large_lem base n (b ∷ l) h g =
    either_lt (λ (r : Option ℕ). None ≡ small r) (digit_value b) base _ _
    (λ k. too_large_lem base (n * base + digit_value b) l h (omega (arith, le-mul_of_pos_right n h)))
    (λ k. refl)

pub number-end : (base n : ℕ) (l : List ℕ) (i : ℕ) → length l ≤ i → n < 4294967296 → Some n ≡ small (spelled base n (drop i l))
unfolding spelled
number-end base n l i h g = rw (drop_of_length-le l h) (below _ _ _ _ _ g refl)

pub below-36 : (base n : ℕ) → base ≤ 16 → n < 4294967296 → n * base ≤ 4294967296 * 16
below-36 base n h g = let k : n ≤ 4294967296 = omega arith in mul-le-mul k h

-- ---- digits alone
or-pick : (t : Bool) {x y : Bool} → x ≡ y → (t || x) ≡ pick t true y
or-pick true e = refl
or-pick false e = e

pub any-not-digit : (l : List ℕ) → list_any (λ b. eqb (digit_value b) 16) l ≡ not_digits l
unfolding not_digits if_eq
any-not-digit [] = refl
any-not-digit (b ∷ l) = or-pick (eqb (digit_value b) 16) (any-not-digit l)

pub no_digit : (l : List ℕ) (i d : ℕ) → i < length l → d ≡ digit_value (get_or l i 0) → d ≡ 16 → true ≡ not_digits (drop i l)
unfolding not_digits
no_digit l i d h e g = rw (next l i h) (same _ _ _ _ _ (omega arith) refl)

true-false : true ≡ false → ⊥
true-false e = let z : ◌≡◌ {A = ℕ} 0 1 = cc in omega arith

pub digit_at : (l : List ℕ) (i : ℕ) → not_digits l ≡ false → i < length l → digit_value (get_or l i 0) ≡ 16 → ⊥
unfolding not_digits
digit_at [] i e h = absurd (omega arith)
digit_at (b ∷ l) zero e h = (missed _ _ _ _ _ true-false e).0
digit_at (b ∷ l) (suc i) e h = digit_at l i (missed (digit_value b) 16 _ _ _ true-false e).1 (omega arith)

-- ---- pairs
pub length-pairs-in : (l : List ℕ) → length (pairs_in l) ≡ length l / 2
unfolding pairs_in
length-pairs-in [] = refl
length-pairs-in (a ∷ []) = refl
length-pairs-in (a ∷ b ∷ l) = omega (arith, length-pairs-in l)

pub pair-at : (l : List ℕ) (i : ℕ) → i < length l / 2 → get_or (pairs_in l) i 0 ≡ digit_value (get_or l (2 * i) 0) * 16 + digit_value (get_or l (2 * i + 1) 0)
unfolding pairs_in
pair-at [] i h = absurd (omega arith)
pair-at (a ∷ []) i h = absurd (omega arith)
pair-at (a ∷ b ∷ l) zero h = refl
pair-at (a ∷ b ∷ l) (suc i) h =
    let e : 2 * suc i ≡ suc (suc (2 * i)) = omega arith in
    let f : 2 * suc i + 1 ≡ suc (suc (2 * i + 1)) = omega arith in rw (f, e) (pair-at l i (omega arith))

-- one byte more of those that are written
pub pair_turn : (s l o : List ℕ) (i x : ℕ) → o ≡ over (take i s) l → i < length s → i < length l → x ≡ get_or s i 0 → set o i x ≡ over (take (i + 1) s) l
pair_turn s l o i x e h k p = rw (add-one, take-suc s i 0 h, p) (over-snoc (take i s) l e i (get_or s i 0) (sym (length-take-le i s (omega arith))) k)

-- ---- lines
-- from a place on
module _ (b : ℕ) (l : List ℕ) (i : ℕ) where
  pub run_on : i < length l → get_or l i 0 ≡ b → run_of b (drop i l) ≡ suc (run_of b (drop (i + 1) l))
  unfolding run_of
  run_on h e = rw (next l i h) (sym (same _ _ _ _ _ e refl))

  pub until_end : length l ≤ i → until_of b (drop i l) ≡ 0
  unfolding until_of
  until_end h = rw (drop_of_length-le l h)

  pub run_end : length l ≤ i → run_of b (drop i l) ≡ 0
  unfolding run_of
  run_end h = rw (drop_of_length-le l h)

stop-here : (t : Bool) (n : ℕ) → pick t 0 (suc n) ≡ cond t 0 (1 + n)
stop-here true n = refl
stop-here false n = omega arith

stop-else : (t : Bool) (n : ℕ) → pick t (suc n) 0 ≡ cond (not t) 0 (1 + n)
stop-else true n = omega arith
stop-else false n = refl

-- where the first byte stands that passes a test, or the end where none does
first-found : (p : ℕ → Bool) (l : List ℕ) (n : ℕ) (r : Option ℕ) → n ≡ unwrap_or r (length l) → r ≡ position p l → (n ≡ position_or_len p l) × (n ≤ length l)
first-found p l n r e h = (go (ltb (position_or_len p l) (length l)) refl h, omega (arith, go (ltb (position_or_len p l) (length l)) refl h, le))
  where
    le : position_or_len p l ≤ length l
    le = prefix_len-le-length (λ x. not (p x)) l

    go : (t : Bool) → ltb (position_or_len p l) (length l) ≡ t → r ≡ cond t (Some (position_or_len p l)) None → n ≡ position_or_len p l
    go true q g = e ∙ rw g
    go false q g = let end : n ≡ length l = e ∙ rw g in omega (arith, ltb-false _ _ q, le)

module _ (b : ℕ) (l : List ℕ) (n : ℕ) (r : Option ℕ) (e : n ≡ unwrap_or r (length l)) where
  pub until-found : r ≡ position (λ c. eqb c b) l → (n ≡ until_of b l) × (n ≤ length l)
  unfolding until_of if_eq
  until-found h =
      let is = is_position_or_len (until_of b) (λ c. eqb c b) refl (λ x xs. stop-here (eqb x b) (until_of b xs)) l in
      let found = first-found (λ c. eqb c b) l n r e h in
      (found.0 ∙ sym is, found.1)

  pub run-found : r ≡ position (λ c. not (eqb c b)) l → (n ≡ run_of b l) × (n ≤ length l)
  unfolding run_of if_eq
  run-found h =
      let is = is_position_or_len (run_of b) (λ c. not (eqb c b)) refl (λ x xs. stop-else (eqb x b) (run_of b xs)) l in
      let found = first-found (λ c. not (eqb c b)) l n r e h in
      (found.0 ∙ sym is, found.1)
