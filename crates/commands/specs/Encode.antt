-- How each command is written: `Commands::to_bytes`, one line a kind. Encoding refuses with 8, 7, 5, 6 (fields, specs/Row.antt).
use Rattle.std.specs.Prelude.{ℕ, ◌+◌, ◌%◌, Bool, true, false, List, [], ◌∷◌}
use Rattle.std.specs.Float.{binary32}
use Rattle.std.specs.Float.Ieee.{to_bits}
use Rattle.numbers.specs.Gain.{gain_byte}
use Rattle.fields.specs.Addr.{addr_of, bit}
use Rattle.fields.specs.declared.row.Field.{Field}
use Rattle.fields.specs.declared.row.Field.TheVariants.{Byte, Word, Address, Coded, Payload, Floats}
use Rattle.fields.specs.declared.value.Value.{Value}
use Rattle.commands.specs.declared.Commands.{Commands}
use Rattle.commands.specs.declared.Commands.TheVariants.{ReadHardwareId, ReadFloats, WriteMemory, ReadMemory, SetConfig, SetSource, SetMute, SetVolume, WriteBiquad, WriteBiquadBypass, Read, Write, FirLoadStart, FirLoadData, FirLoadEnd, DiracBypass, BulkLoad, BulkLoadFilterData, Unk07, SwitchMux, Unknown}

-- the mux's largest number, its top bit set where arg is
abbrev pub mux_byte : ℕ → Bool → ℕ
mux_byte max true = 128 + max % 128
mux_byte max false = max

-- "`[Value; 5]`: an array of structs, each holding one value, beside the command": here of the values themselves, as in the Rust
abbrev pub values_of : List Value → List Field
values_of [] = []
values_of (v ∷ vs) = Coded v ∷ values_of vs

abbrev pub command_row : Commands → List Value → List Field
command_row ReadHardwareId values = Byte 0x31 ∷ []
command_row (ReadFloats addr len) values = Byte 0x14 ∷ Word addr ∷ Byte len ∷ []
command_row (WriteMemory addr place) values = Byte 0x04 ∷ Word addr ∷ Payload place ∷ []
command_row (ReadMemory addr size) values = Byte 0x05 ∷ Word addr ∷ Byte size ∷ []
command_row (SetConfig config reset) values = Byte 0x25 ∷ Byte config ∷ Byte (bit reset) ∷ []
command_row (SetSource source) values = Byte 0x34 ∷ Byte source ∷ []
command_row (SetMute value) values = Byte 0x17 ∷ Byte (bit value) ∷ []
command_row (SetVolume gain) values = Byte 0x42 ∷ Byte (gain_byte (to_bits binary32 gain.0)) ∷ []
command_row (WriteBiquad addr) values = Byte 0x30 ∷ Address addr ∷ Word 0 ∷ values_of values
command_row (WriteBiquadBypass addr value) values = Byte 0x19 ∷ Address (addr_of addr.val addr.len value) ∷ []
command_row (Read addr len) values = Byte 0x02 ∷ Address addr ∷ Byte len ∷ []
command_row (Write addr value) values = Byte 0x13 ∷ Address addr ∷ Coded value ∷ []
command_row (FirLoadStart index) values = Byte 0x39 ∷ Byte index ∷ []
command_row (FirLoadData index floats) values = Byte 0x3A ∷ Byte index ∷ Floats floats.start floats.count ∷ []
command_row FirLoadEnd values = Byte 0x3B ∷ []
command_row (DiracBypass value) values = Byte 0x3F ∷ Byte value ∷ []
command_row (BulkLoad payload) values = Byte 0x12 ∷ Payload payload ∷ []
command_row (BulkLoadFilterData payload) values = Byte 0x06 ∷ Payload payload ∷ []
command_row (Unk07 payload) values = Byte 0x07 ∷ Byte payload ∷ []
command_row (SwitchMux mux) values = Byte 0x29 ∷ Address mux.addr ∷ Byte (mux_byte mux.max mux.arg) ∷ Byte mux.slot ∷ []
command_row (Unknown id payload) values = Byte id ∷ Payload payload ∷ []
