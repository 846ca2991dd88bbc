-- What comes back of an address and of a value, behind other bytes.
use Rattle.std.proofs.Common.{◌≡◌, ℕ, ◌+◌, ◌-◌, ◌*◌, ◌%◌, ◌^◌, ◌<◌, Bool, true, false, leb, List, ◌++◌, length, sym, refl, ap, ◌∙◌, add-zero, mod-lt, mod-eq_of_lt, arith, lit<, le-leb}
use native.Mathlib.Nat.{mod-mod_of_dvd, add-mul-mod_self_right, dvd-mul_left}
use borrow.Author.Tests.{lt-leb}
use Rattle.octets.specs.Number.{big_at, big_bytes, little_at, little_bytes}
use Rattle.octets.specs.Place.{place_at}
use Rattle.octets.proofs.Choosing.{same, other, if-eq-of}
use Rattle.octets.proofs.InBytes.{big-behind, big-back, little-behind}
use Rattle.fields.specs.declared.addr.Addr.{Addr}
use Rattle.fields.specs.declared.value.Value.TheVariants.{Int}
use Rattle.fields.specs.Addr.{addr_of, bit, top_bit, wrong_length, addr_at, addr_bytes}
use Rattle.fields.specs.Value.{value_at, value_bytes}
use Rattle.fields.specs.Back.{cut, moved, reread}
use Rattle.fields.proofs.Addrs.{by_length}

-- a number below 8q with a bit of weight 8q above it: its remainder by q, and its bit
module _ (q v : ℕ) (some : 0 < q) where
  low_part : v % (8 * q) < 8 * q
  low_part = mod-lt v (omega arith)

  masked : v % (8 * q) % q ≡ v % q
  masked = mod-mod_of_dvd q v (dvd-mul_left q 8)

  parts : (b : Bool) → ((v % (8 * q) + bit b * (8 * q)) % (16 * q) % q ≡ v % q) × (leb (8 * q) ((v % (8 * q) + bit b * (8 * q)) % (16 * q)) ≡ b)
  parts true =
      let e : v % (8 * q) + 1 * (8 * q) ≡ v % (8 * q) + 8 * q = omega arith in
      let m : (v % (8 * q) + 8 * q) % (16 * q) ≡ v % (8 * q) + 8 * q = mod-eq_of_lt (omega (arith, low_part)) in
      rw (e, m) (add-mul-mod_self_right (v % (8 * q)) 8 q ∙ masked, le-leb (8 * q) (v % (8 * q) + 8 * q) (omega arith))
  parts false =
      let e : v % (8 * q) + 0 * (8 * q) ≡ v % (8 * q) = omega arith in
      let m : v % (8 * q) % (16 * q) ≡ v % (8 * q) = mod-eq_of_lt (omega (arith, low_part)) in
      rw (e, m) (masked, lt-leb (8 * q) (v % (8 * q)) low_part)

addr_parts : (v : ℕ) (b : Bool) (k : ℕ) → wrong_length k ≡ false → let n = (v % top_bit k + bit b * top_bit k) % 256 ^ k in (n % 2 ^ (8 * k - 4) ≡ v % 2 ^ (8 * k - 4)) × (leb (top_bit k) n ≡ b)
addr_parts v b = by_length (λ k. let n = (v % top_bit k + bit b * top_bit k) % 256 ^ k in (n % 2 ^ (8 * k - 4) ≡ v % 2 ^ (8 * k - 4)) × (leb (top_bit k) n ≡ b)) (parts (2 ^ 12) v (lit< tt) b) (parts (2 ^ 20) v (lit< tt) b)

pub addr_back : (x t : List ℕ) (a : Addr) → wrong_length a.len ≡ false → addr_at a.len (x ++ (addr_bytes a ++ t)) (length x) ≡ cut a
unfolding addr_at addr_bytes
addr_back x t a h =
    let k = a.len in
    let n = a.val % top_bit k + bit a.extra_bit * top_bit k in
    let e : big_at k (x ++ (big_bytes k n ++ t)) (length x) ≡ n % 256 ^ k = rw add-zero at (big-behind x (big_bytes k n ++ t) k 0) ∙ big-back k n t in
    let both = addr_parts a.val a.extra_bit k h in
    rw (e, both.0, both.1)

pub value-back : (x bytes : List ℕ) (n m : ℕ) → n ≡ length x → m ≡ length bytes → value_at (x ++ bytes) (place_at n m) ≡ reread bytes n
unfolding value_at
value-back x bytes n m h g =
    let e : little_at 2 (x ++ bytes) (length x) ≡ little_at 2 bytes 0 = rw add-zero at (little-behind x bytes 2 0) in
    rw (h, g, little-behind x bytes 2 2, e, if-eq-of (moved (length x)), if-eq-of (moved (length x)), if-eq-of (moved (length x)), add-zero)

-- nothing is lost of an address that the mask leaves whole, and of an Int that is not 0
pub cut-whole : (a : Addr) → a.val < 2 ^ (8 * a.len - 4) → cut a ≡ a
cut-whole a h = let e = mod-eq_of_lt h in λ i. addr_of (e i) a.len a.extra_bit

pub int-back : (n : ℕ) (p : List ℕ) (at : ℕ) → 0 < n → n < 2 ^ 16 → reread (value_bytes (Int n) p) at ≡ Int n
unfolding value_at little_bytes little_at
int-back n p at some h =
    let low : little_at 2 (little_bytes 4 n) 0 ≡ n = omega arith in
    let high : little_at 2 (little_bytes 4 n) 2 ≡ 0 = omega arith in
    ap (moved at) (sym (same _ _ _ _ _ refl (same _ _ _ _ _ high (other _ _ _ _ _ (λ e. omega arith) (ap Int (sym low))))))
