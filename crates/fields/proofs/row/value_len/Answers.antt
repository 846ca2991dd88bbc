-- Four bytes, or those of a place that is inside.
use Rattle.std.proofs.Common.{◌≡◌, List, ℕ, length}
use Rattle.octets.specs.declared.Place.{Place}
use Rattle.octets.proofs.InBytes.{length-little, length-big}
use Rattle.octets.proofs.Parts.{length_part, was-inside}
use Rattle.fields.specs.declared.value.Value.{Value}
use Rattle.fields.specs.declared.value.Value.TheVariants.{Float, FixedPoint, Int, Int32, Unknown}
use Rattle.fields.specs.Value.{value_bytes}
use Rattle.fields.proofs.row.value_len.Goals as goal

four : (v : Value) (p : List ℕ) → ((place : Place) → v ≡ Unknown place → ⊥) → length (value_bytes v p) ≡ 4
four (Float x) p n = length-little 4 _
four (FixedPoint x) p n = length-big 4 _
four (Int m) p n = length-little 4 _
four (Int32 m) p n = length-big 4 _
four (Unknown place) p n = absurd (n place (λ i. Unknown place))

pub returns-in-Unknown : goal.returns-in-Unknown
returns-in-Unknown c = rw (c.capped.ensures, c.in-Unknown.is, length_part _ _ (was-inside _ _ (rw c.in-Unknown.is at c.requires)))

pub returns-in_default : goal.returns-in_default
returns-in_default c = rw (four _ c.args.payload.now c.in_default.not-Unknown)
