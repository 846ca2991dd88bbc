-- What only private functions promise; a reader who believes only the public contracts can stop before this.
use Rattle.std.specs.Prelude.{Result, Ok, Err, ℕ, ◌*◌, List}
use Rattle.octets.specs.Outcome.{Outcome, on_accepted, outcome}
use Rattle.octets.specs.declared.refusal.Refusal.{Refusal}
use Rattle.responses.specs.declared.Responses.{Responses}
use Rattle.responses.specs.declared.Responses.TheVariants.{Ack, Read, MemoryData, FloatData, HardwareId, FirLoadSize, ConfigChanged, Unk02, Unknown}
use Rattle.processor.specs.Change.{writes_in}
use Rattle.device.specs.Effect.{Effect, effect}
use Rattle.processor.specs.declared.change.Change.{Change}
use Rattle.device.specs.declared.effect.Plan.{Plan}

-- what effect.rt decides; p is the command's payload
abbrev pub decided : List ℕ → Result Plan Refusal → Outcome Effect
decided p answer = on_accepted (λ plan. effect plan.response (writes_in p plan.change)) (outcome answer)

abbrev pub does : Responses → Change → Result Plan Refusal
does response change = Ok (record { response = response; change = change })

-- how long the payload of an answer is at most
abbrev pub data_length : Responses → ℕ
data_length Ack = 0
data_length (Read addr values) = 0
data_length (MemoryData view) = view.data.len
data_length (FloatData view) = view.count * 4
data_length (HardwareId id) = 0
data_length (FirLoadSize size) = 0
data_length ConfigChanged = 0
data_length Unk02 = 0
data_length (Unknown id payload) = 0

abbrev pub answer_length : Result Plan Refusal → ℕ
answer_length (Ok plan) = data_length plan.response
answer_length (Err k) = 0
