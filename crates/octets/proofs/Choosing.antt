-- Choices by a test. A fact about the numbers picks the branch, so that an answer by tests is `search tests`;
-- and an accepted answer tells how each test before it came out.
use Prim.Native.Nat.{ℕ, ◌<◌, ◌≤◌}
use mathlib.Core.Path.{◌≡◌, refl, sym, subst}
use mathlib.Core.Logic.{◌⊎◌, inl, inr}
use native.Mathlib.Decide.{dec_lt, ℕ_discrete}
use native.Mathlib.Omega.{arith}
use borrow.Author.Tests.{le-ltb, lt-ltb, eq-eqb, ne_eqb}
use borrow.Author.Rules.{rules}
use Rattle.octets.specs.Choice.{if_lt, if_eq}
use Rattle.octets.specs.Outcome.{Outcome, accepted, refused}

module _ {A : Type 0} (a b : ℕ) (x y r : A) where
  pub below : a < b → r ≡ x → r ≡ if_lt a b x y
  unfolding if_lt
  below h e = simp (lt-ltb _ _ h) e

  pub above : b ≤ a → r ≡ y → r ≡ if_lt a b x y
  unfolding if_lt
  above h e = simp (le-ltb _ _ h) e

  pub same : a ≡ b → r ≡ x → r ≡ if_eq a b x y
  unfolding if_eq
  same h e = simp (eq-eqb _ _ h) e

  pub other : (a ≡ b → ⊥) → r ≡ y → r ≡ if_eq a b x y
  unfolding if_eq
  other h e = simp (ne_eqb _ _ h) e

pub ruleset tests = (below, above, same, other, rules)

-- which of the two
pub lt-or-le : (a b : ℕ) → (a < b) ⊎ (b ≤ a)
lt-or-le a b = go (dec_lt a b)
  where
    go : Dec (a < b) → (a < b) ⊎ (b ≤ a)
    go (yes h) = inl h
    go (no h) = inr (omega arith)

-- by cases
module _ {A : Type 0} (P : A → Type 0) (a b : ℕ) (x y : A) where
  pub either_lt : (a < b → P x) → (b ≤ a → P y) → P (if_lt a b x y)
  either_lt f g = go (dec_lt a b)
    where
      go : Dec (a < b) → P (if_lt a b x y)
      go (yes h) = subst P (below a b x y x h refl) (f h)
      go (no h) = let k : b ≤ a = omega arith in subst P (above a b x y y k refl) (g k)

  pub either-eq : (a ≡ b → P x) → ((a ≡ b → ⊥) → P y) → P (if_eq a b x y)
  either-eq f g = go (ℕ_discrete a b)
    where
      go : Dec (a ≡ b) → P (if_eq a b x y)
      go (yes h) = subst P (same a b x y x h refl) (f h)
      go (no h) = subst P (other a b x y y h refl) (g h)

-- through a function
module _ {A B : Type 0} (f : A → B) (a b : ℕ) (x y : A) where
  pub if-of : f (if_lt a b x y) ≡ if_lt a b (f x) (f y)
  if-of = either_lt (λ z. f z ≡ if_lt a b (f x) (f y)) a b x y (λ h. below _ _ _ _ _ h refl) (λ h. above _ _ _ _ _ h refl)

  pub if-eq-of : f (if_eq a b x y) ≡ if_eq a b (f x) (f y)
  if-eq-of = either-eq (λ z. f z ≡ if_eq a b (f x) (f y)) a b x y (λ h. same _ _ _ _ _ h refl) (λ h. other _ _ _ _ _ h refl)

-- an answer that is not the one given at a test tells how the test came out
module _ {A : Type 0} (a b : ℕ) (x y z : A) (never : x ≡ z → ⊥) where
  pub passed : if_lt a b x y ≡ z → (b ≤ a) × (y ≡ z)
  passed = either_lt (λ r. r ≡ z → (b ≤ a) × (y ≡ z)) a b x y (λ h e. absurd (never e)) (λ h e. (h, e))

  pub missed : if_eq a b x y ≡ z → (a ≡ b → ⊥) × (y ≡ z)
  missed = either-eq (λ r. r ≡ z → (a ≡ b → ⊥) × (y ≡ z)) a b x y (λ h e. absurd (never e)) (λ h e. (h, e))

  pub matched : if_eq a b y x ≡ z → (a ≡ b) × (y ≡ z)
  matched = either-eq (λ r. r ≡ z → (a ≡ b) × (y ≡ z)) a b y x (λ h e. (h, e)) (λ h e. absurd (never e))

-- so does an accepted one, where a test refuses
pub refused-accepted : {A : Type 0} {k : ℕ} {v : A} → refused k ≡ accepted v → ⊥
refused-accepted e = let z : ◌≡◌ {A = ℕ} 0 1 = cc in omega arith

pub accepted-refused : {A : Type 0} {a : A} {k : ℕ} → accepted a ≡ refused k → ⊥
accepted-refused e = refused-accepted (sym e)

module _ {A : Type 0} {v : A} (a b k : ℕ) (y : Outcome A) where
  pub was-above : if_lt a b (refused k) y ≡ accepted v → (b ≤ a) × (y ≡ accepted v)
  was-above = passed a b (refused k) y (accepted v) refused-accepted

  pub was-other : if_eq a b (refused k) y ≡ accepted v → (a ≡ b → ⊥) × (y ≡ accepted v)
  was-other = missed a b (refused k) y (accepted v) refused-accepted

  pub was-same : if_eq a b y (refused k) ≡ accepted v → (a ≡ b) × (y ≡ accepted v)
  was-same = matched a b (refused k) y (accepted v) refused-accepted
