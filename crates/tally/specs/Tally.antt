-- "A tally counts accepted and refused calls of the received-frame entry since zeroed, each holding at 4,294,967,295"
use Rattle.std.specs.Prelude.{ℕ, ◌+◌, min, Result, Ok, Err, List, [], ◌∷◌}
use Rattle.octets.specs.Outcome.{Outcome, accepted, refused}
use Rattle.tally.specs.declared.Tally.{Tally}

abbrev pub most_counted : ℕ
most_counted = 0xFFFFFFFF

abbrev pub tally_of : ℕ → ℕ → Tally
tally_of a r = record { accepted = a; refused = r }

abbrev pub zeroed : Tally
zeroed = tally_of 0 0

-- after one call
abbrev pub after : {A : Type 0} → Tally → Outcome A → Tally
after t (accepted a) = tally_of (min most_counted (t.accepted + 1)) t.refused
after t (refused k) = tally_of t.accepted (min most_counted (t.refused + 1))

-- an answer in these terms, whatever its refusal: a call counts as refused under any number that a reader gives it
abbrev pub outcome_by : {A E : Type 0} → (E → ℕ) → Result A E → Outcome A
outcome_by number (Ok a) = accepted a
outcome_by number (Err refusal) = refused (number refusal)

-- after any answers, one after the other
abbrev pub tally_after : {A : Type 0} → Tally → List (Outcome A) → Tally
tally_after t [] = t
tally_after t (o ∷ os) = tally_after (after t o) os

-- how many of them were accepted, and how many refused
abbrev pub accepted_in : {A : Type 0} → List (Outcome A) → ℕ
accepted_in [] = 0
accepted_in (accepted a ∷ os) = accepted_in os + 1
accepted_in (refused k ∷ os) = accepted_in os

abbrev pub refused_in : {A : Type 0} → List (Outcome A) → ℕ
refused_in [] = 0
refused_in (accepted a ∷ os) = refused_in os
refused_in (refused k ∷ os) = refused_in os + 1

-- "counts the accepted and refused calls of the history, capped"
abbrev pub counts_of : {A : Type 0} → List (Outcome A) → Tally
counts_of os = tally_of (min most_counted (accepted_in os)) (min most_counted (refused_in os))
