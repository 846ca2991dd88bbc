-- A tally as it lies in memory, for the walks of receive.rt. No line names a field or a variant.
use mathlib.Core.List.{[], ◌∷◌, List}
use seplogic.Ra.Ura.{Ura}
use lib.Dec.{T as Holds}
use mir.Val.{Val, WT, has_ty}
use types.Logic.{Logic}
use denote.Laws.{Is}
use denote.Struct.Laws as LL
use Rattle.tally.specs.declared.Tally.{Tally}
use Rattle.tally.specs.contracts.Tally as T
use Rattle.tally.proofs.Tally.TheLaws as T'

abbrev pub vals : Tally → List Val
vals = LL.vals T.the_type T'.the_laws

module _ {M : Type 1} {𝓤 : Ura M} (𝓛 : Logic 𝓤) where
  pub tally-typed : (t : Tally) (v : Val) → Is T.the_row t (v ∷ []) → Holds (has_ty T'.mir v) × WT v
  tally-typed t v is = ((LL.lawful T.the_type T'.the_laws 𝓛).typed t (v ∷ []) is).0
