-- Demand 1: a refusal changes no processor memory and no lent output. One statement for each entry point.
use Prim.Native.Nat.{ℕ}
use mathlib.Core.Path.{◌≡◌, refl}
use mathlib.Core.Bool.{Bool, true, false}
use mathlib.Core.List.{List}
use Rattle.octets.specs.Outcome.{Outcome, accepted, refused}
use Rattle.octets.specs.Choice.{pick}
use Rattle.octets.specs.Over.{settle}
use Rattle.octets.proofs.Choosing.{either_lt, accepted-refused}
use Rattle.fields.specs.Row.{encoded_of}
use Rattle.commands.specs.Decode.{command_of}
use Rattle.commands.specs.declared.Commands.{Commands}
use Rattle.packet.specs.Receipt.{plain_of}
use Rattle.responses.specs.Encode.{response_row}
use Rattle.processor.specs.Memory.{Memory, oversized}
use Rattle.device.specs.Effect.{Effect}
use Rattle.device.specs.Data.{data_of}
use Rattle.device.specs.Execute.{Left, store_if, refusing, if_sized, effect_in, form_of, effect_into, recorded, command_into, executed_into, executed_record, received_into}
use Rattle.processor.specs.declared.Device.{Device}

-- what is left by a refusal
abbrev pub Kept : {A : Type 0} → Memory → List ℕ → Left A → Type 0
Kept m out left = (k : ℕ) → left.0 ≡ refused k → (left.1 ≡ m) × (left.2 ≡ out)

module _ (m : Memory) (out : List ℕ) where
  kept-refusing : {A B : Type 0} (o : Outcome A) (next : A → Left B) → ((a : A) → Kept m out (next a)) → Kept m out (refusing m out o next)
  kept-refusing (accepted a) next h = h a
  kept-refusing (refused k) next h = λ j e. (refl, refl)

  kept-sized : {A : Type 0} (next : Left A) → Kept m out next → Kept m out (if_sized m out next)
  kept-sized next h = go (oversized m)
    where
      go : (b : Bool) → Kept m out (pick b (refused 14, m, out) next)
      go true = λ k e. (refl, refl)
      go false = h

  -- an answer that does not go to the output leaves it, and nothing is stored
  kept-answer : (framed : Bool) (e : Effect) → Kept m out (effect_into framed m out e)
  kept-answer framed e = settled (encoded_of (data_of m e.response) (response_row e.response))
    where
      settled : (packet : Outcome (List ℕ)) → Kept m out (let answer = settle packet (form_of framed) out in ((store_if e.writes m answer.0).0, (store_if e.writes m answer.0).1, answer.1))
      settled (refused k) = λ j h. (refl, refl)
      settled (accepted packet) = either_lt (λ (answer : Outcome ℕ × List ℕ). Kept m out ((store_if e.writes m answer.0).0, (store_if e.writes m answer.0).1, answer.1)) _ _ _ _ (λ h j g. (refl, refl)) (λ h j g. absurd (accepted-refused g))

  kept-command : (d : Device) (framed : Bool) (c : Commands) (p : List ℕ) → Kept m out (command_into d framed c p m out)
  kept-command d framed c p = kept-refusing (effect_in d p m c) (effect_into framed m out) (kept-answer framed)

  pub received-kept : (d : Device) (frame : List ℕ) → Kept m out (received_into d frame m out)
  received-kept d frame = kept-sized _ (kept-refusing (plain_of frame) _ (λ place. kept-refusing (command_of _) _ (λ c. kept-command d true c _)))

  pub executed-into-kept : (d : Device) (c : Commands) (p : List ℕ) → Kept m out (executed_into d c p m out)
  executed-into-kept d c p = kept-sized _ (kept-command d false c p)

  pub executed-kept : (d : Device) (c : Commands) (p : List ℕ) → Kept m out (executed_record d c p m out)
  executed-kept d c p = kept-sized _ (kept-refusing (effect_in d p m c) (recorded m out) (λ e j g. absurd (accepted-refused g)))
