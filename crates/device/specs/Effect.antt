-- What each command does, as document 01 has it under "Device": the answer as a record, and what it puts where. p is
-- what the caller lends for the command's payload; e and s are the sizes of the memories.
use Rattle.std.specs.Prelude.{ℕ, ◌+◌, ◌-◌, List, [], ◌∷◌, length}
use Rattle.std.specs.Float.{binary32}
use Rattle.std.specs.Float.Ieee.{to_bits}
use Rattle.octets.specs.Refusals.{outside}
use Rattle.octets.specs.Outcome.{Outcome, accepted, refused}
use Rattle.octets.specs.Choice.{pick, if_lt, if_eq}
use Rattle.octets.specs.Number.{little_at}
use Rattle.octets.specs.Place.{place_at, part_of, is_outside}
use Rattle.octets.specs.declared.Place.{Place}
use Rattle.numbers.specs.Gain.{gain_byte}
use Rattle.facts.specs.Eeprom.{at_preset, at_source, at_mute, at_master_volume}
use Rattle.fields.specs.Addr.{bit}
use Rattle.fields.specs.Value.{value_bytes, value_outside}
use Rattle.fields.specs.declared.addr.Addr.{Addr}
use Rattle.fields.specs.declared.value.Value.{Value}
use Rattle.fields.specs.declared.value.Value.TheVariants.{FixedPoint}
use Rattle.commands.specs.declared.Commands.{Commands}
use Rattle.commands.specs.declared.Commands.TheVariants.{ReadHardwareId, ReadFloats, WriteMemory, ReadMemory, SetConfig, SetSource, SetMute, SetVolume, WriteBiquad, WriteBiquadBypass, Read, Write, FirLoadStart, FirLoadData, FirLoadEnd, DiracBypass, BulkLoad, BulkLoadFilterData, Unk07, SwitchMux, Unknown}
use Rattle.responses.specs.declared.Responses.{Responses}
use Rattle.responses.specs.declared.Responses.TheVariants.{Ack, Read as ReadAnswer, MemoryData, FloatData, HardwareId, FirLoadSize, ConfigChanged, Unk02}
use Rattle.responses.specs.declared.Values.TheVariants.{One}
use Rattle.processor.specs.Memory.{Store, to_eeprom, to_settings}
use Rattle.processor.specs.declared.Device.{Device}

pub record Effect : Type 0 where
  pub response : Responses
  pub writes : List Store

abbrev pub effect : Responses → List Store → Effect
effect response writes = record { response = response; writes = writes }

-- an answer alone: "All other commands answer as `MockDevice::execute` does and name nothing."
abbrev pub tells_of : Responses → Effect
tells_of response = effect response []

abbrev pub identity_of : Device → Responses
identity_of d = HardwareId (record { fw_major = d.fw_major; fw_minor = d.fw_minor; hw_id = d.hw_id })

-- "Read answers FixedPoint 0x00287A26, the value of from_db(-10)."
abbrev pub reading_of : Addr → Responses
reading_of a = ReadAnswer a (One (FixedPoint (record { 0 = 0x00287A26 })))

-- "ReadMemory: if addr + size > 65,536 only 65,535 - addr bytes come from EEPROM"
abbrev pub taken_of : ℕ → ℕ → ℕ
taken_of a size = if_lt 65536 (a + size) (65535 - a) size

-- "if the bytes taken end beyond E, or addr > E, 7"
abbrev pub read_memory_does : ℕ → ℕ → ℕ → Outcome Effect
read_memory_does e a size =
    if_lt e (a + taken_of a size) (refused outside) (accepted (tells_of (MemoryData (record { base = a; «data» = place_at 0 size }))))

-- "WriteMemory and ReadFloats: 7 where the end is beyond E or S"
abbrev pub read_floats_does : ℕ → ℕ → ℕ → Outcome Effect
read_floats_does s a len =
    if_lt s (a + len) (refused outside) (accepted (tells_of (FloatData (record { base = a; start = 0; count = len }))))

abbrev pub write_memory_does : List ℕ → ℕ → ℕ → Place → Outcome Effect
write_memory_does p e a place =
    pick (is_outside place (length p)) (refused outside)
    (if_lt e (a + place.len) (refused outside) (accepted (effect Ack (to_eeprom a (part_of p place) ∷ []))))

-- "Write stores its four value bytes little-endian at its word, 7 beyond S; a value of another length is Ack and names
-- nothing, whatever its address."
abbrev pub write_does : List ℕ → ℕ → ℕ → Value → Outcome Effect
write_does p s a v =
    pick (value_outside v (length p)) (refused outside)
    (if_eq (length (value_bytes v p)) 4
    (if_lt a s (accepted (effect Ack (to_settings a (little_at 4 (value_bytes v p) 0) ∷ []))) (refused outside))
    (accepted (tells_of Ack)))

-- "SetConfig, SetSource, SetMute, SetVolume name their one EEPROM byte"
abbrev pub set_byte : ℕ → ℕ → ℕ → Responses → Outcome Effect
set_byte e a value response = if_lt a e (accepted (effect response (to_eeprom a (value ∷ []) ∷ []))) (refused outside)

abbrev pub effect_of : Device → List ℕ → ℕ → ℕ → Commands → Outcome Effect
effect_of d p e s ReadHardwareId = accepted (tells_of (identity_of d))
effect_of d p e s (ReadMemory a size) = read_memory_does e a size
effect_of d p e s (WriteMemory a place) = write_memory_does p e a place
effect_of d p e s (ReadFloats a len) = read_floats_does s a len
effect_of d p e s (Write a v) = write_does p s a.val v
effect_of d p e s (SetConfig config reset) = set_byte e at_preset config ConfigChanged
effect_of d p e s (SetSource n) = set_byte e at_source n Ack
effect_of d p e s (SetMute value) = set_byte e at_mute (bit value) Ack
effect_of d p e s (SetVolume gain) = set_byte e at_master_volume (gain_byte (to_bits binary32 gain.0)) Ack
effect_of d p e s (FirLoadStart index) = accepted (tells_of (FirLoadSize d.fir_max_taps))
effect_of d p e s (Unk07 payload) = accepted (tells_of Unk02)
effect_of d p e s (Read a len) = accepted (tells_of (reading_of a))
effect_of d p e s (WriteBiquad a) = accepted (tells_of Ack)
effect_of d p e s (WriteBiquadBypass a value) = accepted (tells_of Ack)
effect_of d p e s (FirLoadData index floats) = accepted (tells_of Ack)
effect_of d p e s FirLoadEnd = accepted (tells_of Ack)
effect_of d p e s (DiracBypass value) = accepted (tells_of Ack)
effect_of d p e s (BulkLoad payload) = accepted (tells_of Ack)
effect_of d p e s (BulkLoadFilterData payload) = accepted (tells_of Ack)
effect_of d p e s (SwitchMux mux) = accepted (tells_of Ack)
effect_of d p e s (Unknown id payload) = accepted (tells_of Ack)
