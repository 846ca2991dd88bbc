-- Executing commands: what is answered, and what is left in the memories and in the lent output.
use Rattle.std.specs.Prelude.{ℕ, Bool, true, false, List, length}
use Rattle.octets.specs.Refusals.{wrong_sizes}
use Rattle.octets.specs.Outcome.{Outcome, accepted, refused}
use Rattle.octets.specs.Choice.{pick}
use Rattle.octets.specs.Over.{over, settle}
use Rattle.octets.specs.Place.{part_of}
use Rattle.octets.specs.declared.Place.{Place}
use Rattle.packet.specs.Frame.{frame_of}
use Rattle.packet.specs.Receipt.{plain_of}
use Rattle.fields.specs.Row.{encoded_of}
use Rattle.commands.specs.Decode.{command_of}
use Rattle.commands.specs.declared.Commands.{Commands}
use Rattle.responses.specs.Encode.{response_row}
use Rattle.responses.specs.declared.Responses.{Responses}
use Rattle.processor.specs.Memory.{Memory, Store, store, oversized}
use Rattle.device.specs.Effect.{Effect, effect_of}
use Rattle.device.specs.Data.{data_of}
use Rattle.processor.specs.declared.Device.{Device}

-- an answer, with the memories and the output that it leaves
abbrev pub Left : Type 0 → Type 0
Left A = Outcome A × Memory × List ℕ

-- "A refusal carries its number and length 0; memory and output stay equal to what they were at entry."
abbrev pub refusing : {A B : Type 0} → Memory → List ℕ → Outcome A → (A → Left B) → Left B
refusing m out (accepted a) next = next a
refusing m out (refused k) next = (refused k, m, out)

-- 14 stands first
abbrev pub if_sized : {A : Type 0} → Memory → List ℕ → Left A → Left A
if_sized m out next = pick (oversized m) (refused wrong_sizes, m, out) next

abbrev pub effect_in : Device → List ℕ → Memory → Commands → Outcome Effect
effect_in d p m c = effect_of d p (length m.eeprom) (length m.settings) c

-- the answer's frame, or its packet alone
abbrev pub form_of : Bool → List ℕ → List ℕ
form_of true packet = frame_of packet
form_of false packet = packet

abbrev pub answer_into : Bool → List ℕ → Responses → List ℕ → Outcome ℕ × List ℕ
answer_into framed bytes response out = settle (encoded_of bytes (response_row response)) (form_of framed) out

-- "all settled before anything is stored"
abbrev pub store_if : List Store → Memory → Outcome ℕ → Outcome ℕ × Memory
store_if writes m (accepted n) = (accepted n, store writes m)
store_if writes m (refused k) = (refused k, m)

abbrev pub effect_into : Bool → Memory → List ℕ → Effect → Left ℕ
effect_into framed m out e =
    let answer = answer_into framed (data_of m e.response) e.response out in
    let after = store_if e.writes m answer.0 in
    (after.0, after.1, answer.1)

abbrev pub command_into : Device → Bool → Commands → List ℕ → Memory → List ℕ → Left ℕ
command_into d framed c p m out = refusing m out (effect_in d p m c) (effect_into framed m out)

-- "A command record executed directly: 14, 7, then 8 for an address in the answer and 6, both only where the answer's
-- bytes go to a lent output". Between 8 and 6 comes 5, for "packet over 254 bytes": `encoded_of` asks it of every packet
-- (docs/DECISIONS.md).
abbrev pub executed_into : Device → Commands → List ℕ → Memory → List ℕ → Left ℕ
executed_into d c p m out = if_sized m out (command_into d false c p m out)

abbrev pub recorded : Memory → List ℕ → Effect → Left Responses
recorded m out e = (accepted e.response, store e.writes m, over (data_of m e.response) out)

abbrev pub executed_record : Device → Commands → List ℕ → Memory → List ℕ → Left Responses
executed_record d c p m out = if_sized m out (refusing m out (effect_in d p m c) (recorded m out))

-- "The received-frame entry takes plain receipt, decodes, executes and writes the answer's frame."
abbrev pub packet_into : Device → List ℕ → Memory → List ℕ → Left ℕ
packet_into d packet m out = refusing m out (command_of packet) (λ c. command_into d true c packet m out)

abbrev pub received_into : Device → List ℕ → Memory → List ℕ → Left ℕ
received_into d frame m out = if_sized m out (refusing m out (plain_of frame) (λ (place : Place). packet_into d (part_of frame place) m out))
