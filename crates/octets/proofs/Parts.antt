-- Laws of a place's bytes: past the end there is nothing, and a place that runs past it has what there is up to it.
use mathlib.Core.Path.{◌≡◌, sym, ap, ◌∙◌}
use mathlib.Core.Bool.{Bool, true, false}
use mathlib.Core.Logic.{◌⊎◌, inl, inr}
use Prim.Native.Nat.{ℕ, ◌+◌, ◌-◌, ◌≤◌, ◌<◌, min}
use mathlib.Core.List.{List, [], ◌++◌}
use native.Mathlib.Omega.{arith}
use lib.ListN.{length, take, drop, length-take, length-drop, drop_of_length-le}
use lib.Seq.{take_all, take_at, take-nil, take-take, take-add, drop-drop, drop_at, drop-append-add, length-take-le, get_or-take, get_or-drop}
use borrow.Author.Tests.{lt-ltb, le-ltb, ltb-false, ltb-true}
use Rattle.octets.specs.declared.Place.{Place}
use Rattle.octets.specs.Place.{place_at, part_of, is_outside}
use Rattle.octets.specs.Number.{at}
use Rattle.octets.proofs.Choosing.{lt-or-le}

module _ (l : List ℕ) (p : Place) where
  pub part_none : length l ≤ p.start → [] ≡ part_of l p
  unfolding part_of
  part_none h = sym (rw (drop_of_length-le l h) (take-nil p.len))

  pub part_cut : length l - p.start < p.len → take (length l - p.start) (drop p.start l) ≡ part_of l p
  unfolding part_of
  part_cut h =
      let d : List ℕ = drop p.start l in
      let e : length d ≡ length l - p.start = length-drop p.start l in
      take_all (length l - p.start) d (omega arith) ∙ sym (take_all p.len d (omega arith))

  pub part-within : take (p.start + p.len - p.start) (drop p.start l) ≡ part_of l p
  unfolding part_of
  part-within = let e : p.start + p.len - p.start ≡ p.len = omega arith in rw e

  -- a place cut to what there is, in its start and then in its length
  pub part-capped : (s n : ℕ) → s ≡ min p.start (length l) → n ≡ min p.len (length l - s) → take (s + n - s) (drop s l) ≡ part_of l p
  part-capped s n es en = go (lt-or-le p.start (length l)) (lt-or-le (length l - p.start) p.len)
    where
      go : (p.start < length l) ⊎ (length l ≤ p.start) → (length l - p.start < p.len) ⊎ (p.len ≤ length l - p.start) → take (s + n - s) (drop s l) ≡ part_of l p
      go (inr h) _ = let e : s + n - s ≡ 0 = omega arith in rw e (part_none h)
      go (inl h) (inl g) =
          let e : s ≡ p.start = omega arith in
          let f : s + n - s ≡ length l - p.start = omega arith in
          rw (f, e) (part_cut g)
      go (inl h) (inr g) =
          let e : s ≡ p.start = omega arith in
          let f : s + n - s ≡ p.start + p.len - p.start = omega arith in
          rw (f, e) part-within

  pub length_part : p.start + p.len ≤ length l → length (part_of l p) ≡ p.len
  unfolding part_of
  length_part h = simp (length-take, length-drop) (omega arith)

  -- a shorter place has the first of its bytes
  pub part-short : (k : ℕ) → part_of l (place_at p.start (min k p.len)) ≡ take k (part_of l p)
  unfolding part_of
  part-short k = go (lt-or-le k p.len)
    where
      d : List ℕ
      d = drop p.start l

      go : (k < p.len) ⊎ (p.len ≤ k) → take (min k p.len) d ≡ take k (take p.len d)
      go (inl h) = let e : min k p.len ≡ k = omega arith in rw e (sym (take-take k p.len d (omega arith)))
      go (inr h) = let e : min k p.len ≡ p.len = omega arith in rw e (sym (take_all k (take p.len d) (omega (arith, length-take p.len d))))

  pub at_part : (i : ℕ) → i < p.len → at (part_of l p) i ≡ at l (p.start + i)
  unfolding part_of
  at_part i h = rw (get_or-take p.len (drop p.start l) i 0 h, get_or-drop)

-- a part of a part
pub part-part : (l : List ℕ) (s n i k : ℕ) → s + n ≤ length l → i + k ≤ n → part_of l (place_at (s + i) k) ≡ part_of (part_of l (place_at s n)) (place_at i k)
unfolding part_of
part-part l s n i k h g =
    let d : List ℕ = drop s l in
    let long : length d ≡ length l - s = length-drop s l in
    let e : n ≡ i + (n - i) = omega arith in
    let cut : drop i (take n d) ≡ take (n - i) (drop i d) =
    ap (λ (m : ℕ). drop i (take m d)) e ∙ rw (take-add i (n - i) d) (drop_at (take i d) (take (n - i) (drop i d)) i (length-take-le i d (omega arith))) in
    rw (cut, take-take k (n - i) (drop i d) (omega arith), drop-drop i s l)

-- all that is left behind the first n bytes
pub part-rest : (l : List ℕ) (n : ℕ) → part_of l (place_at n (length l - n)) ≡ drop n l
unfolding part_of
part-rest l n = take_all (length l - n) (drop n l) (omega (arith, length-drop n l))

-- behind other bytes
pub part-behind : (a l : List ℕ) (i n : ℕ) → part_of (a ++ l) (place_at (length a + i) n) ≡ part_of l (place_at i n)
unfolding part_of
part-behind a l i n = rw drop-append-add

-- bytes between others
pub part-between : (a b l : List ℕ) (n m : ℕ) → n ≡ length a → m ≡ length b → part_of (a ++ (b ++ l)) (place_at n m) ≡ b
unfolding part_of
part-between a b l n m h g = rw (drop_at a (b ++ l) n (sym h)) (take_at b l m (sym g))

module _ (p : Place) (have : ℕ) where
  pub is-inside : p.start + p.len ≤ have → false ≡ is_outside p have
  unfolding is_outside
  is-inside h = sym (le-ltb _ _ h)

  pub is-outside : have < p.start + p.len → true ≡ is_outside p have
  unfolding is_outside
  is-outside h = sym (lt-ltb _ _ h)

  pub was-inside : is_outside p have ≡ false → p.start + p.len ≤ have
  unfolding is_outside
  was-inside e = ltb-false _ _ e

  pub was-outside : is_outside p have ≡ true → have < p.start + p.len
  unfolding is_outside
  was-outside e = ltb-true _ _ e

-- `if is_outside(..)`
module _ (p : Place) (have : ℕ) {r : Bool} (e : r ≡ is_outside p have) where
  pub found-outside : r ≡ true → have < p.start + p.len
  found-outside h = was-outside p have (sym e ∙ h)

  pub found_inside : r ≡ false → p.start + p.len ≤ have
  found_inside h = was-inside p have (sym e ∙ h)
