-- The tally beside the memories. "A tally counts accepted and refused calls of the received-frame entry since zeroed"
use Rattle.std.specs.Prelude.{ℕ, List, [], ◌∷◌, ◌++◌}
use Rattle.octets.specs.Outcome.{Outcome}
use Rattle.processor.specs.Memory.{Memory}
use Rattle.device.specs.Execute.{received_into}
use Rattle.tally.specs.Tally.{tally_after}
use Rattle.tally.specs.declared.Tally.{Tally}
use Rattle.history.specs.History.{Call, bare, new, receive, execute, execute-into, write-u8, write-u16, write-u32, set-serial, set-timestamp, store-image, replay, save, step}

-- what a call has counted: the answer, where it is one of the received-frame entry
abbrev pub counted : Call → Memory → List (Outcome ℕ)
counted (receive d frame octets out) m = (received_into d frame m out).0 ∷ []
counted (bare made) m = []
counted (new made typed meters) m = []
counted (execute d c typed p octets out) m = []
counted (execute-into d c typed p octets out) m = []
counted (write-u8 a value typed) m = []
counted (write-u16 a value typed) m = []
counted (write-u32 a value typed) m = []
counted (set-serial value typed) m = []
counted (set-timestamp value typed) m = []
counted (store-image image octets) m = []
counted (replay l octets) m = []
counted (save out) m = []

-- the answers of that entry in a history
abbrev pub answers_in : List Call → Memory → List (Outcome ℕ)
answers_in [] m = []
answers_in (c ∷ cs) m = counted c m ++ answers_in cs (step c m)

-- the tally that goes through a history, call by call
abbrev pub tallied : Tally → List Call → Memory → Tally
tallied t [] m = t
tallied t (c ∷ cs) m = tallied (tally_after t (counted c m)) cs (step c m)
