-- A row passes the tests behind others exactly if it lies in the image and names no byte that one of them names, and a refusal has its reason.
use Prim.Native.Nat.{ℕ, ◌≤◌, ◌<◌, min, max}
use mathlib.Core.Path.{◌≡◌, refl, sym, ap, ◌∙◌}
use mathlib.Core.Logic.{◌⊎◌, inl, inr, ⊎_elim}
use mathlib.Core.List.{List, [], ◌∷◌, Memᴰ}
use native.Mathlib.Omega.{arith}
use Rattle.octets.specs.Refusals.{outside, named_twice}
use Rattle.octets.specs.Outcome.{Outcome, accepted, refused}
use Rattle.octets.proofs.Choosing.{below, above, lt-or-le, either_lt, was-above, accepted-refused}
use Rattle.intel_hex.specs.Format.{HexRow, row_end, Names, Apart, ApartFrom}
use Rattle.intel_hex.specs.Reading.{apart_from, fits_behind}
use Rattle.intel_hex.specs.Faults.{Twice}

-- a row names a byte, or not
pub names-or-not : (r : HexRow) (i : ℕ) → Names r i ⊎ (Names r i → ⊥)
names-or-not r i = ⊎_elim (λ h. inr (λ n. omega (arith, n.0))) (λ h. ⊎_elim (λ g. inl (h, g)) (λ g. inr (λ n. omega (arith, n.1))) (lt-or-le i (row_end r))) (lt-or-le i r.start)

-- where the later of two rows begins and the sooner one ends
abbrev begin : HexRow → HexRow → ℕ
begin r s = max r.start s.start

abbrev end : HexRow → HexRow → ℕ
end r s = min (row_end r) (row_end s)

apart-ends : (r s : HexRow) → Apart s r → end r s ≤ begin r s
apart-ends r s h = ⊎_elim (λ g. absurd (h (begin r s) (omega arith) (omega arith))) (λ g. g) (lt-or-le (begin r s) (end r s))

-- ---- accepted
pub is-apart : (r : HexRow) (rows : List HexRow) → apart_from r rows ≡ accepted tt → ApartFrom r rows
is-apart r [] h = tt
is-apart r (s ∷ rows) h =
    let rest = was-above (begin r s) (end r s) named_twice (apart_from r rows) h in
    (λ i n m. omega (arith, rest.0), is-apart r rows rest.1)

pub apart-is : (r : HexRow) (rows : List HexRow) → ApartFrom r rows → apart_from r rows ≡ accepted tt
apart-is r [] h = refl
apart-is r (s ∷ rows) h = sym (above _ _ _ _ _ (apart-ends r s h.0) (sym (apart-is r rows h.1)))

module _ (e : ℕ) (rows : List HexRow) (r : HexRow) where
  pub is-fitting : fits_behind e rows r ≡ accepted tt → (row_end r ≤ e) × ApartFrom r rows
  is-fitting h =
      let rest = was-above e (row_end r) outside (apart_from r rows) h in
      (rest.0, is-apart r rows rest.1)

  pub fitting-is : row_end r ≤ e → ApartFrom r rows → fits_behind e rows r ≡ accepted tt
  fitting-is h g = sym (above _ _ _ _ _ h (sym (apart-is r rows g)))

-- ---- refused
pub later : (r s : HexRow) (rows : List HexRow) → Twice r rows → Twice r (s ∷ rows)
later r s rows t = record { row = t.row; among = Memᴰ.tail t.among; byte = t.byte; there = t.there; here = t.here }

abbrev Reason : HexRow → List HexRow → Outcome Unit → Type 0
Reason r rows o = (k : ℕ) → o ≡ refused k → (k ≡ named_twice) × Twice r rows

pub not-apart : (r : HexRow) (rows : List HexRow) (k : ℕ) → apart_from r rows ≡ refused k → (k ≡ named_twice) × Twice r rows
not-apart r [] = λ k h. absurd (accepted-refused h)
not-apart r (s ∷ rows) =
    either_lt (Reason r (s ∷ rows)) (begin r s) (end r s) (refused named_twice) (apart_from r rows)
    (λ g k h. (cc, record { row = s; among = Memᴰ.head refl; byte = begin r s; there = omega arith; here = omega arith }))
    (λ g k h. let rest = not-apart r rows k h in (rest.0, later r s rows rest.1))

apart-not : (r s : HexRow) (rows : List HexRow) → Memᴰ s rows → (i : ℕ) → Names s i → Names r i → apart_from r rows ≡ refused named_twice
apart-not r s rows (Memᴰ.head {x} {xs} e) i there here =
    let moved : Names x i = rw e at there in
    sym (below (begin r x) (end r x) _ _ _ (omega arith) refl)
apart-not r s rows (Memᴰ.tail {x} {xs} m) i there here =
    either_lt (λ (o : Outcome Unit). o ≡ refused named_twice) (begin r x) (end r x) _ _ (λ g. refl) (λ g. apart-not r s xs m i there here)

-- "7 row address plus count beyond E, 18 byte named twice"
abbrev pub Unfit : ℕ → List HexRow → HexRow → ℕ → Type 0
Unfit e rows r k = ((k ≡ outside) × (e < row_end r)) ⊎ ((k ≡ named_twice) × (row_end r ≤ e) × Twice r rows)

module _ (e : ℕ) (rows : List HexRow) (r : HexRow) where
  pub not-fitting : (k : ℕ) → fits_behind e rows r ≡ refused k → Unfit e rows r k
  not-fitting =
      either_lt (λ (o : Outcome Unit). (k : ℕ) → o ≡ refused k → Unfit e rows r k) e (row_end r) _ _
      (λ g k h. inl (cc, g))
      (λ g k h. let rest = not-apart r rows k h in inr (rest.0, g, rest.1))

  pub fitting-not : (k : ℕ) → Unfit e rows r k → fits_behind e rows r ≡ refused k
  fitting-not k (inl h) = sym (below _ _ _ _ _ h.1 (ap refused h.0))
  fitting-not k (inr h) =
      let t : Twice r rows = h.2 in
      sym (above _ _ _ _ _ h.1 (ap refused h.0 ∙ sym (apart-not r t.row rows t.among t.byte t.there t.here)))
