-- Laws of numbers in bytes, over the width. A number is its two parts one behind the other, is 0 past the end, and
-- reads back as it was written, cut to its width.
use Prim.Native.Nat.{ℕ, zero, suc, ◌+◌, ◌-◌, ◌*◌, ◌/◌, ◌%◌, ◌^◌, ◌≤◌, ◌<◌}
use mathlib.Core.Path.{◌≡◌, refl, sym, ap, ◌∙◌}
use mathlib.Core.List.{List, [], ◌∷◌, ◌++◌, append_assoc, append-nil}
use native.Mathlib.Nat.{div-one, div-div-eq-div-mul, add-suc, suc-add, add-zero, zero-add, add_assoc, mul-pos, mul_assoc, add-mul, pow-suc, pow-succ', mul-add-div_right, mul-add-mod_self_right, mod-eq_of_lt}
use native.Mathlib.Numerals.{add-one}
use native.Mathlib.Omega.{arith}
use lib.Arith.{mod-mul, digits_lt, digits_div}
use lib.Dec.{lit<}
use lib.ListN.{set, replicate, length-replicate, length, take, drop, length-append, length-drop, get_or-eq_default}
use Rattle.std.proofs.lemmas.List.{set_at, replicate_more}
use lib.Seq.{get_or_at, get_or-append-add, drop-cons, take-suc, get_or-drop}
use Rattle.octets.specs.Number.{at, Octets, big_at, little_at, big_bytes, little_bytes}

some : (k : ℕ) → 0 < 256 ^ k
some zero = lit< tt
some (suc k) = rw pow-suc (mul-pos (some k) (lit< tt))

pub past : (l : List ℕ) (i : ℕ) → length l ≤ i → at l i ≡ 0
past l i h = get_or-eq_default l 0 h

module _ (l : List ℕ) where
  pub big-past : (k i : ℕ) → length l ≤ i → big_at k l i ≡ 0
  unfolding big_at
  big-past zero i h = refl
  big-past (suc k) i h = rw (big-past k i h, past l (i + k) (omega arith))

  pub little-past : (k i : ℕ) → length l ≤ i → little_at k l i ≡ 0
  unfolding little_at
  little-past zero i h = refl
  little-past (suc k) i h = rw (little-past k (i + 1) (omega arith), past l i h)

  pub big-parts : (j k i : ℕ) → big_at (j + k) l i ≡ big_at j l i * 256 ^ k + big_at k l (i + j)
  unfolding big_at
  big-parts j zero i = rw add-zero (omega arith)
  big-parts j (suc k) i = rw (add-suc, big-parts j k i, pow-suc, ← add_assoc i j k, ← mul_assoc, add-mul) (omega arith)

  pub little-parts : (j k i : ℕ) → little_at (j + k) l i ≡ little_at j l i + little_at k l (i + j) * 256 ^ j
  unfolding little_at
  little-parts zero k i = rw (zero-add, add-zero) (omega arith)
  little-parts (suc j) k i =
      let e : i + 1 + j ≡ i + suc j = omega arith in
      rw (suc-add, little-parts j k (i + 1), e, pow-suc, ← mul_assoc, add-mul) (omega arith)

  little-none : (i : ℕ) → little_at 0 l i ≡ 0
  unfolding little_at
  little-none i = refl

  pub big-one : (i : ℕ) → big_at 1 l i ≡ at l i
  unfolding big_at
  big-one i = rw add-zero (omega arith)

  pub little-one : (i : ℕ) → little_at 1 l i ≡ at l i
  unfolding little_at
  little-one i = omega arith

  -- the most significant byte, and the rest
  big-first : (k i : ℕ) → big_at (suc k) l i ≡ at l i * 256 ^ k + big_at k l (i + 1)
  big-first k i =
      let e : suc k ≡ 1 + k = omega arith in
      ap (λ (j : ℕ). big_at j l i) e ∙ big-parts 1 k i ∙ rw big-one

  little-first : (k i : ℕ) → little_at (suc k) l i ≡ at l (i + k) * 256 ^ k + little_at k l i
  little-first k i = rw (← add-one k) (little-parts k 1 i ∙ rw little-one (omega arith))

-- behind other bytes
module _ (a l : List ℕ) where
  pub big-behind : (k i : ℕ) → big_at k (a ++ l) (length a + i) ≡ big_at k l i
  unfolding big_at
  big-behind zero i = refl
  big-behind (suc k) i = rw (big-behind k i, add_assoc, get_or-append-add a l (i + k) 0)

  pub little-behind : (k i : ℕ) → little_at k (a ++ l) (length a + i) ≡ little_at k l i
  unfolding little_at
  little-behind zero i = refl
  little-behind (suc k) i = rw (add_assoc, little-behind k (i + 1), get_or-append-add a l i 0)

pub length-big : (k n : ℕ) → length (big_bytes k n) ≡ k
unfolding big_bytes
length-big zero n = refl
length-big (suc k) n = ap suc (length-big k n)

pub length-little : (k n : ℕ) → length (little_bytes k n) ≡ k
unfolding little_bytes
length-little zero n = refl
length-little (suc k) n = rw (length-append, length-little k n) (omega arith)

-- ---- written a digit at a time, into zeros
pub next-digit : (i n : ℕ) → n / 256 ^ i / 256 ≡ n / 256 ^ (i + 1)
next-digit i n = rw (add-one i, pow-suc) (div-div-eq-div-mul n (256 ^ i) 256)

big-begun : (width n : ℕ) → replicate width 0 ≡ replicate (width - 0) 0 ++ big_bytes 0 n
unfolding big_bytes
big-begun width n = let e : width - 0 ≡ width = omega arith in rw e (sym (append-nil (replicate width 0)))

pub begun-big : (width n : ℕ) → (replicate width 0 ≡ replicate (width - 0) 0 ++ big_bytes 0 n) × (n ≡ n / 256 ^ 0)
begun-big width n = (big-begun width n, sym (div-one n))

little-begun : (width n : ℕ) → replicate width 0 ≡ little_bytes 0 n ++ replicate (width - 0) 0
unfolding little_bytes
little-begun width n = let e : width - 0 ≡ width = omega arith in rw e refl

pub begun-little : (width n : ℕ) → (replicate width 0 ≡ little_bytes 0 n ++ replicate (width - 0) 0) × (n ≡ n / 256 ^ 0)
begun-little width n = (little-begun width n, sym (div-one n))

module _ (width i n : ℕ) (b : List ℕ) (more : i < width) where
  digit-i : ℕ
  digit-i = n / 256 ^ i % 256

  left : ℕ
  left = width - (i + 1)

  lefts : width - i ≡ left + 1
  unfolding left
  lefts = omega arith

  big-more : big_bytes (i + 1) n ≡ digit-i ∷ big_bytes i n
  unfolding big_bytes digit-i
  big-more = rw add-one refl

  little-more : little_bytes (i + 1) n ≡ little_bytes i n ++ (digit-i ∷ [])
  unfolding little_bytes digit-i
  little-more = rw add-one refl

  pub big-turn : b ≡ replicate (width - i) 0 ++ big_bytes i n → set b (width - 1 - i) (n / 256 ^ i % 256) ≡ replicate (width - (i + 1)) 0 ++ big_bytes (i + 1) n
  unfolding left lefts digit-i
  big-turn e =
      let at : width - 1 - i ≡ left = omega arith in
      let zeros : b ≡ replicate left 0 ++ 0 ∷ big_bytes i n =
      e ∙ rw (lefts, ← replicate_more {X = ℕ} left 0, append_assoc) in
      rw (at, zeros, big-more) (set_at (replicate left 0) 0 (big_bytes i n) digit-i left (length-replicate left 0))

  pub little-turn : b ≡ little_bytes i n ++ replicate (width - i) 0 → set b i (n / 256 ^ i % 256) ≡ little_bytes (i + 1) n ++ replicate (width - (i + 1)) 0
  unfolding left lefts digit-i
  little-turn e =
      let zeros : b ≡ little_bytes i n ++ 0 ∷ replicate left 0 = e ∙ rw (lefts, add-one left) in
      rw (zeros, little-more, append_assoc) (set_at (little_bytes i n) 0 (replicate left 0) digit-i i (length-little i n))

-- one digit more
digit : (k n : ℕ) → n / 256 ^ k % 256 * 256 ^ k + n % 256 ^ k ≡ n % 256 ^ suc k
digit k n = rw pow-succ' (sym (mod-mul n (lit< tt) (some k)))

pub big-back : (k n : ℕ) (t : List ℕ) → big_at k (big_bytes k n ++ t) 0 ≡ n % 256 ^ k
unfolding big_at big_bytes
big-back zero n t = omega arith
big-back (suc k) n t =
    let d : ℕ = n / 256 ^ k % 256 in
    big-first (d ∷ (big_bytes k n ++ t)) k 0 ∙ rw (big-behind (d ∷ []) (big_bytes k n ++ t) k 0, big-back k n t) (digit k n)

pub little-back : (k n : ℕ) (t : List ℕ) → little_at k (little_bytes k n ++ t) 0 ≡ n % 256 ^ k
unfolding little_bytes
little-back zero n t = little-none t 0 ∙ omega arith
little-back (suc k) n t =
    let d : ℕ = n / 256 ^ k % 256 in
    rw append_assoc
    (little-first (little_bytes k n ++ (d ∷ t)) k 0
    ∙ rw (zero-add, little-back k n (d ∷ t), get_or_at (little_bytes k n) d t 0 k (length-little k n)) (digit k n))

-- ---- bytes that are read are written again
-- what lies above k bytes is not written
pub big-low : (k q r : ℕ) → big_bytes k (q * 256 ^ k + r) ≡ big_bytes k r
unfolding big_bytes
big-low zero q r = refl
big-low (suc k) q r =
    let e : q * 256 ^ suc k + r ≡ q * 256 * 256 ^ k + r = rw (pow-succ', ← mul_assoc) in
    rw (e, mul-add-div_right (some k) (q * 256) r, mul-add-mod_self_right q 256 (r / 256 ^ k), big-low k (q * 256) r)

pub little-low : (k q r : ℕ) → little_bytes k (q * 256 ^ k + r) ≡ little_bytes k r
unfolding little_bytes
little-low zero q r = refl
little-low (suc k) q r =
    let e : q * 256 ^ suc k + r ≡ q * 256 * 256 ^ k + r = rw (pow-succ', ← mul_assoc) in
    rw (e, mul-add-div_right (some k) (q * 256) r, mul-add-mod_self_right q 256 (r / 256 ^ k), little-low k (q * 256) r)

module _ (l : List ℕ) (bytes : Octets l) where
  pub big_lt : (k i : ℕ) → big_at k l i < 256 ^ k
  unfolding big_at
  big_lt zero i = lit< tt
  big_lt (suc k) i = rw pow-suc (digits_lt (big_lt k i) (bytes (i + k)))

  pub little-lt : (k i : ℕ) → little_at k l i < 256 ^ k
  little-lt zero i = rw little-none (lit< tt)
  little-lt (suc k) i = rw (little-first l k i, pow-succ') (digits_lt (bytes (i + k)) (little-lt k i))

  pub big-again : (k i : ℕ) → i + k ≤ length l → big_bytes k (big_at k l i) ≡ take k (drop i l)
  unfolding big_bytes
  big-again zero i h = refl
  big-again (suc k) i h =
      rw (big-first l k i, digits_div (at l i) (big_lt k (i + 1)), mod-eq_of_lt (bytes i), big-low k (at l i) (big_at k l (i + 1)), big-again k (i + 1) (omega arith), drop-cons l i 0 (omega arith), add-one)

  pub little-again : (k i : ℕ) → i + k ≤ length l → little_bytes k (little_at k l i) ≡ take k (drop i l)
  unfolding little_bytes
  little-again zero i h = refl
  little-again (suc k) i h =
      let shorter : k < length (drop i l) = simp length-drop (omega arith) in
      rw (little-first l k i, digits_div (at l (i + k)) (little-lt k i), mod-eq_of_lt (bytes (i + k)), little-low k (at l (i + k)) (little_at k l i), little-again k i (omega arith), take-suc (drop i l) k 0 shorter, get_or-drop)
