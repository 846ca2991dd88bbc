-- What a joined memory view keeps: the first view's bytes, and of the second's those that stand below 65,535.
use Prim.Native.Nat.{ℕ, ◌+◌, ◌-◌, ◌≤◌, ◌<◌, min}
use mathlib.Core.Path.{◌≡◌, refl, sym, ap, ◌∙◌}
use mathlib.Core.Logic.{◌⊎◌, inl, inr}
use mathlib.Core.List.{List, ◌++◌}
use native.Mathlib.Omega.{arith}
use lib.ListN.{length, take}
use lib.Seq.{take-append-add}
use Rattle.octets.specs.Place.{place_at, part_of}
use Rattle.octets.specs.declared.Place.{Place}
use Rattle.octets.proofs.Choosing.{below, lt-or-le}
use Rattle.octets.proofs.Parts.{length_part, part-short}
use Rattle.views.specs.Joining.{adjoined}

module _ (l m : List ℕ) (p q : Place) (base next : ℕ) (out : List ℕ) (held : p.start + p.len ≤ length l) where
  abbrev short : List ℕ
  short = part_of m (place_at q.start (min (65535 - base - p.len) q.len))

  take-parts : base + p.len ≤ 65535 → part_of l p ++ short ≡ take (65535 - base) (part_of l p ++ part_of m q)
  take-parts k =
      let r : ℕ = 65535 - base - p.len in
      let e : 65535 - base ≡ length (part_of l p) + r = omega (arith, length_part l p held) in
      rw (part-short m q r) (sym (ap (λ (n : ℕ). take n (part_of l p ++ part_of m q)) e ∙ take-append-add (part_of l p) (part_of m q) r))

  abbrev pub Kept : Type 0
  Kept = adjoined base p.len next (part_of l p ++ short) out ≡ adjoined base p.len next (take (65535 - base) (part_of l p ++ part_of m q)) out

  -- a first view that runs past 65,535 is refused, whatever the bytes
  pub adjoined-kept : Kept
  adjoined-kept = go (lt-or-le 65535 (base + p.len))
    where
      go : (65535 < base + p.len) ⊎ (base + p.len ≤ 65535) → Kept
      go (inl h) = sym (below _ _ _ _ _ h refl) ∙ below _ _ _ _ _ h refl
      go (inr h) = rw (take-parts h)
