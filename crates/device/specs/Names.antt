-- What a command names, as document 01 has it under "Device": the bytes and words that it puts, by its record and its payload p
-- alone. No device is asked, nor how large the memories are: what a command names is the same inside memory or not.
use Rattle.std.specs.Prelude.{ℕ, List, [], ◌∷◌, length}
use Rattle.std.specs.Float.{binary32}
use Rattle.std.specs.Float.Ieee.{to_bits}
use Rattle.octets.specs.Choice.{if_eq}
use Rattle.octets.specs.Number.{little_at}
use Rattle.octets.specs.Place.{part_of}
use Rattle.numbers.specs.Gain.{gain_byte}
use Rattle.facts.specs.Eeprom.{at_preset, at_source, at_mute, at_master_volume}
use Rattle.fields.specs.Addr.{bit}
use Rattle.fields.specs.Value.{value_bytes}
use Rattle.commands.specs.declared.Commands.{Commands}
use Rattle.commands.specs.declared.Commands.TheVariants.{ReadHardwareId, ReadFloats, WriteMemory, ReadMemory, SetConfig, SetSource, SetMute, SetVolume, WriteBiquad, WriteBiquadBypass, Read, Write, FirLoadStart, FirLoadData, FirLoadEnd, DiracBypass, BulkLoad, BulkLoadFilterData, Unk07, SwitchMux, Unknown}
use Rattle.processor.specs.Memory.{Store, to_eeprom, to_settings}

-- "Write stores its four value bytes little-endian at its word ..; a value of another length is Ack and names nothing, whatever
-- its address."
abbrev pub word_named : ℕ → List ℕ → List Store
word_named a value = if_eq (length value) 4 (to_settings a (little_at 4 value 0) ∷ []) []

-- "SetConfig, SetSource, SetMute, SetVolume name their one EEPROM byte"
abbrev pub byte_named : ℕ → ℕ → List Store
byte_named a value = to_eeprom a (value ∷ []) ∷ []

-- WriteMemory names its bytes. "All other commands answer as `MockDevice::execute` does and name nothing."
abbrev pub names : List ℕ → Commands → List Store
names p (WriteMemory a place) = to_eeprom a (part_of p place) ∷ []
names p (Write a v) = word_named a.val (value_bytes v p)
names p (SetConfig config reset) = byte_named at_preset config
names p (SetSource n) = byte_named at_source n
names p (SetMute value) = byte_named at_mute (bit value)
names p (SetVolume gain) = byte_named at_master_volume (gain_byte (to_bits binary32 gain.0))
names p ReadHardwareId = []
names p (ReadMemory a size) = []
names p (ReadFloats a len) = []
names p (FirLoadStart index) = []
names p (Unk07 payload) = []
names p (Read a len) = []
names p (WriteBiquad a) = []
names p (WriteBiquadBypass a value) = []
names p (FirLoadData index floats) = []
names p FirLoadEnd = []
names p (DiracBypass value) = []
names p (BulkLoad payload) = []
names p (BulkLoadFilterData payload) = []
names p (SwitchMux mux) = []
names p (Unknown id payload) = []
