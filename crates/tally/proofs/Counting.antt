-- What an answer counts for is the same in the papers' terms, whatever number its refusal has.
use mathlib.Core.Path.{◌≡◌, refl}
use Rattle.std.specs.Prelude.{Result, Ok, Err}
use Rattle.octets.specs.Outcome.{outcome}
use Rattle.octets.specs.Refusals.{number_of}
use Rattle.octets.specs.declared.refusal.Refusal.{Refusal}
use Rattle.tally.specs.Tally.{outcome_by}

pub by-number : {A : Type 0} (answer : Result A Refusal) → outcome_by number_of answer ≡ outcome answer
by-number (Ok a) = refl
by-number (Err k) = refl
