-- Reading the fields of a packet.
use Rattle.std.specs.Prelude.{ℕ, ◌-◌, List, length}
use Rattle.octets.specs.Refusals.{ends}
use Rattle.octets.specs.Outcome.{Outcome, accepted, refused}
use Rattle.octets.specs.Choice.{if_lt}
use Rattle.octets.specs.Place.{place_at}
use Rattle.octets.specs.declared.Place.{Place}

-- what is read of a packet that must have n bytes: "packet ends before a field"
abbrev pub needing : {A : Type 0} → ℕ → List ℕ → A → Outcome A
needing n packet a = if_lt (length packet) n (refused ends) (accepted a)

-- what is left behind the first n bytes
abbrev pub rest : ℕ → List ℕ → Place
rest n packet = place_at n (length packet - n)
