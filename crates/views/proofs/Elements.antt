-- Elements of a view, of so many bytes each: a joined view has, as far as it goes, the first view's below the second's
-- base and the second's from there on.
use Prim.Native.Nat.{ℕ, suc, ◌+◌, ◌-◌, ◌*◌, ◌≤◌, ◌<◌}
use mathlib.Core.Path.{◌≡◌, refl, sym, ap, ◌∙◌}
use mathlib.Core.Logic.{◌⊎◌, inl, inr}
use mathlib.Core.List.{List}
use Rattle.std.specs.Prelude.{Option, Some, None}
use Rattle.std.specs.Option.{option_map}
use native.Mathlib.Nat.{add_assoc, add-mul, suc-mul, mul-le-mul_right}
use native.Mathlib.Omega.{arith}
use lib.ListN.{length, get_or-append}
use lib.Seq.{get_or-append-add}
use Rattle.octets.specs.Choice.{if_lt}
use Rattle.octets.specs.Number.{at}
use Rattle.octets.specs.Place.{part_of}
use Rattle.octets.specs.declared.Place.{Place}
use Rattle.octets.proofs.Choosing.{below, above, lt-or-le}
use Rattle.octets.proofs.Parts.{length_part, at_part}
use Rattle.views.specs.View.{View}
use Rattle.views.specs.Reading.{part_in}
use Rattle.views.proofs.Joined.{both_bytes}

-- the element at an address, by a reader of so many bytes
abbrev pub element : ℕ → (List ℕ → ℕ → ℕ) → View → List ℕ → ℕ → Option ℕ
element size read v bytes addr = option_map (λ (p : Place). read bytes (v.place.start + p.start * size)) (part_in v bytes addr 1)

-- a reader of so many bytes reads the same where they are
abbrev pub Reads : ℕ → (List ℕ → ℕ → ℕ) → Type 0
Reads size read = (l m : List ℕ) (p q : ℕ) → ((i : ℕ) → i < size → at l (p + i) ≡ at m (q + i)) → read l p ≡ read m q

-- byte i of element k lies in n elements
in-element : (size k n i : ℕ) → k < n → i < size → k * size + i < n * size
in-element size k n i h g = let e : suc k * size ≤ n * size = mul-le-mul_right size (omega arith) in omega (arith, suc-mul k size)

module _ (size : ℕ) (read : List ℕ → ℕ → ℕ) (v : View) (bytes : List ℕ) (held : v.place.start + v.place.len ≤ length bytes) (addr : ℕ) where
  is-element : v.base ≤ addr → addr < v.base + v.len → Some (read bytes (v.place.start + (addr - v.base) * size)) ≡ element size read v bytes addr
  is-element h g = ap (option_map _) (above _ _ _ _ _ held (above _ _ _ _ _ h (above _ _ _ _ _ (omega arith) refl)))

  below_all : addr < v.base → None ≡ element size read v bytes addr
  below_all h = ap (option_map _) (above _ _ _ _ _ held (below _ _ _ _ _ h refl))

  behind-all : v.base + v.len ≤ addr → None ≡ element size read v bytes addr
  behind-all h = ap (option_map _) (above _ _ _ _ _ held (above _ _ _ _ _ (omega arith) (below _ _ _ _ _ (omega arith) refl)))

module _ (size : ℕ) (v w j : View) (bytes others left : List ℕ)
    (first : v.place.start + v.place.len ≤ length bytes) (second : w.place.start + w.place.len ≤ length others) (third : j.place.start + j.place.len ≤ length left)
    (firsts : v.place.len ≡ v.len * size) (seconds : w.place.len ≡ w.len * size)
    (from : j.base ≡ v.base) (meet : w.base ≡ v.base + v.len) (all : v.len ≤ j.len) (most : j.len ≤ v.len + w.len)
    (shown : (p : ℕ) → p < j.len * size → at left (j.place.start + p) ≡ at (both_bytes v bytes w others) p) where
  long : length (part_of bytes v.place) ≡ v.len * size
  long = length_part bytes v.place first ∙ firsts

  in-first : (p : ℕ) → p < v.len * size → at (both_bytes v bytes w others) p ≡ at bytes (v.place.start + p)
  in-first p h = get_or-append (part_of bytes v.place) (part_of others w.place) 0 p (omega (arith, long)) ∙ at_part bytes v.place p (omega arith)

  in-second : (p : ℕ) → p < w.len * size → at (both_bytes v bytes w others) (v.len * size + p) ≡ at others (w.place.start + p)
  in-second p h = rw (← long) (get_or-append-add (part_of bytes v.place) (part_of others w.place) p 0) ∙ at_part others w.place p (omega arith)

  module _ (read : List ℕ → ℕ → ℕ) (same : Reads size read) (addr : ℕ) where
    abbrev pub Joins : Type 0
    Joins = element size read j left addr ≡ if_lt addr (j.base + j.len) (if_lt addr w.base (element size read v bytes addr) (element size read w others addr)) None

    of-first : v.base ≤ addr → addr < w.base → read left (j.place.start + (addr - j.base) * size) ≡ read bytes (v.place.start + (addr - v.base) * size)
    of-first h g =
        let k : ℕ = addr - v.base in
        same _ _ _ _
        (λ i b. rw (from, add_assoc j.place.start (k * size) i, add_assoc v.place.start (k * size) i)
        (shown (k * size + i) (in-element size k j.len i (omega arith) b) ∙ in-first (k * size + i) (in-element size k v.len i (omega arith) b)))

    of-second : w.base ≤ addr → addr < j.base + j.len → read left (j.place.start + (addr - j.base) * size) ≡ read others (w.place.start + (addr - w.base) * size)
    of-second h g =
        let k : ℕ = addr - w.base in
        let d : addr - j.base ≡ v.len + k = omega arith in
        let m : (addr - j.base) * size ≡ v.len * size + k * size = rw d (add-mul v.len k size) in
        same _ _ _ _
        (λ i b.
        let e : j.place.start + (addr - j.base) * size + i ≡ j.place.start + (v.len * size + (k * size + i)) = omega arith in
        let f : v.len * size + (k * size + i) < j.len * size = omega (arith, in-element size (addr - j.base) j.len i (omega arith) b) in
        rw (e, add_assoc w.place.start (k * size) i)
        (shown (v.len * size + (k * size + i)) f ∙ in-second (k * size + i) (in-element size k w.len i (omega arith) b)))

    pub reads-joined : Joins
    reads-joined = kept (lt-or-le addr (j.base + j.len))
      where
        front : addr < j.base + j.len → addr < w.base → (addr < v.base) ⊎ (v.base ≤ addr) → Joins
        front h g (inl f) = sym (below_all size read j left third addr (omega arith)) ∙ below _ _ _ _ _ h (below _ _ _ _ _ g (below_all size read v bytes first addr f))
        front h g (inr f) =
            sym (is-element size read j left third addr (omega arith) h)
            ∙ below _ _ _ _ _ h (below _ _ _ _ _ g (ap Some (of-first f g) ∙ is-element size read v bytes first addr f (omega arith)))

        side : addr < j.base + j.len → (addr < w.base) ⊎ (w.base ≤ addr) → Joins
        side h (inl g) = front h g (lt-or-le addr v.base)
        side h (inr g) =
            sym (is-element size read j left third addr (omega arith) h)
            ∙ below _ _ _ _ _ h (above _ _ _ _ _ g (ap Some (of-second g h) ∙ is-element size read w others second addr g (omega arith)))

        kept : (addr < j.base + j.len) ⊎ (j.base + j.len ≤ addr) → Joins
        kept (inl h) = side h (lt-or-le addr w.base)
        kept (inr h) = sym (behind-all size read j left third addr h) ∙ above _ _ _ _ _ h refl
