-- `Commands::mute`, with the constants of WriteInt; and READ_FLOATS_MAX.
use Rattle.std.specs.Prelude.{Bool, true, false, ℕ, List, [], ◌∷◌}
use Rattle.fields.specs.declared.addr.Addr.{Addr}
use Rattle.fields.specs.declared.value.Value.TheVariants.{Int}
use Rattle.commands.specs.declared.Commands.{Commands}
use Rattle.commands.specs.declared.Commands.TheVariants.{Write}

abbrev pub disabled : ℕ
disabled = 1

abbrev pub enabled : ℕ
enabled = 2

abbrev pub bypassed : ℕ
bypassed = 3

abbrev pub write_ints : List ℕ
write_ints = disabled ∷ enabled ∷ bypassed ∷ []

abbrev pub read_floats_max : ℕ
read_floats_max = 14

abbrev pub mute_of : Addr → Bool → Commands
mute_of addr true = Write addr (Int disabled)
mute_of addr false = Write addr (Int enabled)
