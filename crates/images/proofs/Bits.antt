-- Bits: one that is 0 is set by adding its power of two, and the others stay.
use Rattle.std.proofs.Common.{◌≡◌, ℕ, ◌+◌, ◌-◌, ◌*◌, ◌/◌, ◌%◌, ◌^◌, ◌<◌, ◌≤◌, ◌⊎◌, List, length, set, ap, ◌∙◌, inl, inr, arith, lit<, get_or-set_other, get_or-set_same, pow_pos, pow-add, shl_exact, shr-shr}
use native.Mathlib.Nat.{mul-add-div_right}
use native.Mathlib.Decide.{ℕ_discrete}
use Rattle.octets.specs.Number.{at}
use Rattle.octets.proofs.Choosing.{lt-or-le, either_lt}
use Rattle.images.specs.Inside.{bit_at, one_in}

-- `1 << j` in a byte
pub one_bit : (j : ℕ) → j < 8 → 1 * 2 ^ j % 256 ≡ 2 ^ j
one_bit j h = shl_exact {a = 1} 1 j 8 (lit< tt) (omega arith) ∙ omega arith

module _ (w j : ℕ) where
  -- counted in steps of the power, the number is the next one
  next : (w + 2 ^ j) / 2 ^ j ≡ w / 2 ^ j + 1
  next = let e : w + 2 ^ j ≡ 1 * 2 ^ j + w = omega arith in rw e (mul-add-div_right (pow_pos j) 1 w ∙ omega arith)

  lower : (d k : ℕ) → j ≡ k + (1 + d) → (w + 2 ^ j) / 2 ^ k % 2 ≡ w / 2 ^ k % 2
  lower d k h =
      let e : w + 2 ^ j ≡ 2 ^ (1 + d) * 2 ^ k + w = rw (h, pow-add 2 k (1 + d)) (omega arith) in
      let even : 2 ^ (1 + d) ≡ 2 * 2 ^ d = pow-add 2 1 d in
      rw (e, mul-add-div_right (pow_pos k) (2 ^ (1 + d)) w, even) (omega arith)

  module _ (clear : w / 2 ^ j % 2 ≡ 0) where
    pub set_here : (w + 2 ^ j) / 2 ^ j % 2 ≡ 1
    set_here = rw next (omega arith)

    higher : (d k : ℕ) → k ≡ j + (1 + d) → (w + 2 ^ j) / 2 ^ k ≡ w / 2 ^ k
    higher d k h =
        let half : (w / 2 ^ j + 1) / 2 ^ 1 ≡ w / 2 ^ j / 2 ^ 1 = omega arith in
        rw (h, ← shr-shr (w + 2 ^ j) j (1 + d), ← shr-shr w j (1 + d), next, ← shr-shr (w / 2 ^ j + 1) 1 d, ← shr-shr (w / 2 ^ j) 1 d, half)

    pub set-elsewhere : (k : ℕ) → (k ≡ j → ⊥) → (w + 2 ^ j) / 2 ^ k % 2 ≡ w / 2 ^ k % 2
    set-elsewhere k apart = go (lt-or-le k j)
      where
        go : (k < j) ⊎ (j ≤ k) → (w + 2 ^ j) / 2 ^ k % 2 ≡ w / 2 ^ k % 2
        go (inl h) = lower (j - k - 1) k (omega arith)
        go (inr h) = ap (λ (n : ℕ). n % 2) (higher (k - j - 1) k (omega (arith, apart)))

    -- it stays a byte
    pub set-byte : j < 8 → w < 256 → w + 2 ^ j < 256
    set-byte h b = let e : (w + 2 ^ j) / 2 ^ 8 ≡ w / 2 ^ 8 = higher (8 - j - 1) 8 (omega arith) in omega (arith, e)

-- ---- in a list of bytes, the bit of place p
module _ (l : List ℕ) (p : ℕ) (h : p / 8 < length l) (clear : bit_at l p ≡ 0) where
  abbrev after : List ℕ
  after = set l (p / 8) (at l (p / 8) + 2 ^ (p % 8))

  is_set : bit_at after p ≡ 1
  is_set = rw (get_or-set_same l (p / 8) (at l (p / 8) + 2 ^ (p % 8)) 0 h) (set_here (at l (p / 8)) (p % 8) clear)

  stays : (i : ℕ) → (i ≡ p → ⊥) → bit_at after i ≡ bit_at l i
  stays i apart = go (ℕ_discrete (i / 8) (p / 8))
    where
      go : Dec (i / 8 ≡ p / 8) → bit_at after i ≡ bit_at l i
      go (yes e) = rw (e, get_or-set_same l (p / 8) (at l (p / 8) + 2 ^ (p % 8)) 0 h) (set-elsewhere (at l (p / 8)) (p % 8) clear (i % 8) (λ k. apart (omega arith)))
      go (no e) = rw (get_or-set_other l (p / 8) (i / 8) (at l (p / 8) + 2 ^ (p % 8)) 0 e)

  pub one-marked : (i : ℕ) → bit_at after i ≡ one_in p (p + 1) i (bit_at l i)
  one-marked i =
      either_lt (λ (b : ℕ). bit_at after i ≡ b) i p _ _ (λ g. stays i (λ e. omega arith))
      (λ g. either_lt (λ (b : ℕ). bit_at after i ≡ b) i (p + 1) _ _ (λ k. let e : i ≡ p = omega arith in rw e is_set) (λ k. stays i (λ e. omega arith)))
