-- A number has four bytes; an unknown value has those of its place.
use mathlib.Core.Logic.{inl, inr}
use Rattle.octets.proofs.InBytes.{length-little, length-big}
use Rattle.octets.proofs.Parts.{length_part, was-inside}
use Rattle.device.proofs.effect.is_four.Goals as goal

pub returns-in-Float : goal.returns-in-Float
returns-in-Float c = λ p h.
    elim c.in-Float.is [
      | inl x ↦ rw (x.1, length-little)
      | inr t ↦ elim t [ inl x ↦ rw (x.1, length-big) | inr u ↦ elim u [ inl x ↦ rw (x.1, length-little) | inr x ↦ rw (x.1, length-big) ] ]
    ]

pub returns-in-Unknown : goal.returns-in-Unknown
returns-in-Unknown c = λ p h. let e = c.in-Unknown.is in let inside = rw e at h in rw (e, length_part p _ (was-inside _ _ inside))
