-- The bytes of an address, at its length.
use Rattle.std.proofs.Common.{◌≡◌, ℕ, ◌+◌, ◌*◌, ◌%◌, ◌≤◌, Bool, true, false, length, sym, refl, subst, true≢false, lit≤}
use Rattle.octets.specs.Number.{big_bytes}
use Rattle.octets.specs.Choice.{if_eq}
use Rattle.octets.proofs.Choosing.{same, other, either-eq}
use Rattle.octets.proofs.InBytes.{length-big}
use Rattle.fields.specs.declared.addr.Addr.{Addr}
use Rattle.fields.specs.Addr.{top_bit, bit, wrong_length, addr_bytes}

-- a length is 2, 3 or wrong
pub is-two : (k : ℕ) → k ≡ 2 → wrong_length k ≡ false
is-two k e = sym (same _ _ _ _ _ e refl)

pub is-three : (k : ℕ) → (k ≡ 2 → ⊥) → k ≡ 3 → wrong_length k ≡ false
is-three k n e = sym (other _ _ _ _ _ n (same _ _ _ _ _ e refl))

pub is-wrong : (k : ℕ) → (k ≡ 2 → ⊥) → (k ≡ 3 → ⊥) → wrong_length k ≡ true
is-wrong k n m = sym (other _ _ _ _ _ n (other _ _ _ _ _ m refl))

-- what holds for both right lengths
pub by_length : (P : ℕ → Type 0) → P 2 → P 3 → (k : ℕ) → wrong_length k ≡ false → P k
by_length P two three k =
    either-eq (λ (b : Bool). b ≡ false → P k) k 2 false (if_eq k 3 false true) (λ e f. subst P (sym e) two)
    (λ n. either-eq (λ (b : Bool). b ≡ false → P k) k 3 false true (λ e f. subst P (sym e) three) (λ m f. absurd (true≢false f)))

-- one that is not wrong takes few bytes
pub right-length : (k : ℕ) → wrong_length k ≡ false → k ≤ 3
right-length = by_length (λ k. k ≤ 3) (lit≤ tt) (lit≤ tt)

module _ (a : Addr) where
  pub addr-bytes : (k : ℕ) → a.len ≡ k → addr_bytes a ≡ big_bytes k (a.val % top_bit k + bit a.extra_bit * top_bit k)
  unfolding addr_bytes
  addr-bytes k e = rw e

  pub length-addr : length (addr_bytes a) ≡ a.len
  unfolding addr_bytes
  length-addr = length-big a.len _
