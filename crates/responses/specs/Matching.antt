-- Which response answers a command: `Commands::matches_response`, one line a kind.
use Rattle.std.specs.Prelude.{ℕ, Bool, true, false, eqb}
use Rattle.octets.specs.Outcome.{Outcome, accepted, refused}
use Rattle.octets.specs.Choice.{if_eq}
use Rattle.views.specs.declared.memory.MemoryView.{MemoryView}
use Rattle.views.specs.declared.floats.FloatView.{FloatView}
use Rattle.commands.specs.declared.Commands.{Commands}
use Rattle.commands.specs.declared.Commands.TheVariants.{ReadHardwareId, ReadFloats, WriteMemory, ReadMemory, SetConfig, SetSource, SetMute, SetVolume, WriteBiquad, WriteBiquadBypass, Read, Write, FirLoadStart, FirLoadData, FirLoadEnd, DiracBypass, BulkLoad, BulkLoadFilterData, Unk07, SwitchMux, Unknown}
use Rattle.responses.specs.declared.Responses.{Responses}
use Rattle.responses.specs.ByKind.{by_kind, is_accepted}

-- of the address and the size that were asked for
abbrev pub is_memory : ℕ → ℕ → Outcome MemoryView → Bool
is_memory addr size (accepted view) = if_eq view.base addr (eqb view.data.len size) false
is_memory addr size (refused k) = false

abbrev pub are_floats : ℕ → ℕ → Outcome FloatView → Bool
are_floats addr len (accepted view) = if_eq view.base addr (eqb view.count len) false
are_floats addr len (refused k) = false

abbrev pub matches : Commands → Responses → Bool
matches (ReadMemory addr size) s = is_memory addr size (by_kind s).memory
matches (ReadFloats addr len) s = are_floats addr len (by_kind s).floats
matches ReadHardwareId s = is_accepted (by_kind s).hardware
matches (SetConfig config reset) s = is_accepted (by_kind s).config
matches (FirLoadStart index) s = is_accepted (by_kind s).size
matches (Unk07 payload) s = is_accepted (by_kind s).unk02
matches (Read addr len) s = is_accepted (by_kind s).read
matches (WriteMemory addr place) s = is_accepted (by_kind s).ack
matches (SetSource source) s = is_accepted (by_kind s).ack
matches (SetMute value) s = is_accepted (by_kind s).ack
matches (SetVolume value) s = is_accepted (by_kind s).ack
matches (WriteBiquad addr) s = is_accepted (by_kind s).ack
matches (WriteBiquadBypass addr value) s = is_accepted (by_kind s).ack
matches (Write addr value) s = is_accepted (by_kind s).ack
matches (FirLoadData index floats) s = is_accepted (by_kind s).ack
matches FirLoadEnd s = is_accepted (by_kind s).ack
matches (BulkLoad payload) s = is_accepted (by_kind s).ack
matches (BulkLoadFilterData payload) s = is_accepted (by_kind s).ack
matches (DiracBypass value) s = is_accepted (by_kind s).ack
matches (SwitchMux mux) s = is_accepted (by_kind s).ack
matches (Unknown id payload) s = true
