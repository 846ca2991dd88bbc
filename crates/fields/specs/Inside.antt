-- What only private functions promise; a reader who believes only the public contracts can stop before this.
use Rattle.std.specs.Prelude.{◌≡◌, ℕ, false, List, length}
use Rattle.octets.specs.Outcome.{Outcome, on_accepted}
use Rattle.fields.specs.Row.{misaddressed, misplaced, any_of}
use Rattle.fields.specs.declared.row.Field.{Field}

-- a field that nothing is wrong with, and a row of such fields
pub record Writable (p : List ℕ) (f : Field) : Type 0 where
  pub addressed : misaddressed f ≡ false
  pub placed : misplaced (length p) f ≡ false

pub record AllWritable (p : List ℕ) (row : List Field) : Type 0 where
  pub addressed : any_of misaddressed row ≡ false
  pub placed : any_of (misplaced (length p)) row ≡ false

-- how many bytes a packet takes that is settled
abbrev pub encoded_length : Outcome (List ℕ) → Outcome ℕ
encoded_length = on_accepted length
