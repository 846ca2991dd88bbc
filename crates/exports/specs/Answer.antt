-- Answers for C: 0 where a call is accepted, else the number of the refusal, none of which is 0.
use Rattle.std.specs.Prelude.{ℕ, List}
use Rattle.octets.specs.Outcome.{Outcome, accepted, refused, on_accepted}
use Rattle.processor.specs.Memory.{Memory}

abbrev pub number_of : Outcome Unit → ℕ
number_of (accepted u) = 0
number_of (refused k) = k

abbrev pub in_number : Outcome Unit × Memory → ℕ × Memory
in_number left = (number_of left.0, left.1)

-- the same of a function that writes; how much it wrote is known from what it was given
abbrev pub written_number : Outcome ℕ → ℕ
written_number answer = number_of (on_accepted (λ n. tt) answer)

abbrev pub out_number : Outcome ℕ × List ℕ → ℕ × List ℕ
out_number left = (written_number left.0, left.1)
