-- After each turn the bytes before the place are marked, and none of them was.
use Rattle.std.proofs.Common.{◌≡◌, ℕ, ◌+◌, ◌<◌, ◌≤◌, ◌⊎◌, List, sym, refl, ◌∙◌, inl, inr, arith}
use Rattle.octets.proofs.Choosing.{lt-or-le}
use Rattle.images.specs.Inside.{bit_at}
use Rattle.images.proofs.Marking.{one_outside, one_further}
use Rattle.images.proofs.judge.mark_row.Goals as goal

-- none was marked up to p, nor is p
earlier : (s p : ℕ) (l : List ℕ) → ((i : ℕ) → s ≤ i → i < p → bit_at l i ≡ 0) → bit_at l p ≡ 0 → (i : ℕ) → s ≤ i → i < p + 1 → bit_at l i ≡ 0
earlier s p l none one i h g = go (lt-or-le i p)
  where
    go : (i < p) ⊎ (p ≤ i) → bit_at l i ≡ 0
    go (inl k) = none i h k
    go (inr k) = let e : i ≡ p = omega arith in rw e one

pub loop-place-init : goal.loop-place-init
loop-place-init c = (refl, (λ i h g. absurd (omega arith)), λ i. sym (one_outside _ _ i _ (λ h g. omega arith)))

pub returns-then-mark : goal.returns-then-mark
returns-then-mark c =
    let marked = rw c.if-mark.true at c.mark.ensures in
    (c.loop-place.place, omega arith, omega arith, sym (one_outside _ c.loop-place.place c.loop-place.place _ (λ h g. omega arith)) ∙ sym (c.loop-place.invariant.2 c.loop-place.place) ∙ marked)

pub loop-place-preserved : goal.loop-place-preserved
loop-place-preserved c =
    let p = c.loop-place.place in
    let one = rw c.if-mark.false at c.mark.ensures in
    let was = sym (one_outside _ p p _ (λ h g. omega arith)) ∙ sym (c.loop-place.invariant.2 p) ∙ one.0 in (
      one.1 ∙ c.loop-place.invariant.0,
      (λ i h g. earlier c.args.start p c.args.marks.now c.loop-place.invariant.1 was i h g),
      λ i. one.2 i ∙ rw (c.loop-place.invariant.2 i) (one_further c.args.start p i _ (omega arith)),
    )
