-- Bits from a place up to another, and those of a list else.
use Rattle.std.proofs.Common.{◌≡◌, ℕ, ◌+◌, ◌<◌, ◌≤◌, ◌⊎◌, sym, refl, ◌∙◌, inl, inr, arith}
use Rattle.octets.proofs.Choosing.{below, above, either_lt, lt-or-le}
use Rattle.images.specs.Inside.{one_in}

module _ (s e i o : ℕ) where
  pub one_inside : s ≤ i → i < e → one_in s e i o ≡ 1
  one_inside h g = sym (above _ _ _ _ _ h (below _ _ _ _ _ g refl))

  pub one_outside : (s ≤ i → i < e → ⊥) → one_in s e i o ≡ o
  one_outside never = either_lt (λ b. b ≡ o) _ _ _ _ (λ h. refl) (λ h. either_lt (λ b. b ≡ o) _ _ _ _ (λ g. absurd (never h g)) (λ g. refl))

-- one more of them
pub one_further : (s p i o : ℕ) → s ≤ p → one_in p (p + 1) i (one_in s p i o) ≡ one_in s (p + 1) i o
one_further s p i o h = go (lt-or-le i s) (lt-or-le i p) (lt-or-le i (p + 1))
  where
    neither : (s ≤ i → i < p + 1 → ⊥) → one_in p (p + 1) i (one_in s p i o) ≡ one_in s (p + 1) i o
    neither n = one_outside p (p + 1) i _ (λ x y. n (omega arith) y) ∙ one_outside s p i o (λ x y. n x (omega arith)) ∙ sym (one_outside s (p + 1) i o n)

    go : (i < s) ⊎ (s ≤ i) → (i < p) ⊎ (p ≤ i) → (i < p + 1) ⊎ (p + 1 ≤ i) → one_in p (p + 1) i (one_in s p i o) ≡ one_in s (p + 1) i o
    go (inl a) b k = neither (λ x y. omega arith)
    go (inr a) (inl b) k = one_outside p (p + 1) i _ (λ x y. omega arith) ∙ one_inside s p i o a b ∙ sym (one_inside s (p + 1) i o a (omega arith))
    go (inr a) (inr b) (inl k) = one_inside p (p + 1) i _ b k ∙ sym (one_inside s (p + 1) i o a k)
    go (inr a) (inr b) (inr k) = neither (λ x y. omega arith)
