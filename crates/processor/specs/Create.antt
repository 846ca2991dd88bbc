-- Devices on lent memories. On a refusal "memory and output stay equal to what they were at entry".
use Rattle.std.specs.Prelude.{ℕ, Bool, true, false, List, [], ◌∷◌, length, replicate}
use Rattle.octets.specs.Refusals.{outside, wrong_sizes}
use Rattle.octets.specs.Outcome.{Outcome, accepted, refused}
use Rattle.octets.specs.Choice.{pick, if_lt, if_eq}
use Rattle.octets.specs.Number.{big_bytes}
use Rattle.facts.specs.Eeprom.{at_firmware_version, at_timestamp, at_source, at_master_volume, at_mute, at_preset, at_serial}
use Rattle.facts.specs.declared.probe.DeviceKind.{DeviceKind}
use Rattle.processor.specs.Memory.{Memory, memory, Store, to_eeprom, put_at, store, oversized}
use Rattle.processor.specs.declared.Device.{Device}

-- "Bare and new are given hw_id, dsp_version and kind; firmware is 1.13."
abbrev pub device_of : ℕ → ℕ → DeviceKind → ℕ → Device
device_of hw dsp kind taps =
    record { hw_id = hw; dsp_version = dsp; fw_major = 1; fw_minor = 13; kind = kind; fir_max_taps = taps }

-- "A bare device holds 0xFF and 0."
abbrev pub bare_memory : Memory → Memory
bare_memory m = memory (replicate (length m.eeprom) 0xFF) (replicate (length m.settings) 0)

abbrev pub bare_of : Device → Memory → Outcome Device × Memory
bare_of d m = pick (oversized m) (refused wrong_sizes, m) (accepted d, bare_memory m)

-- "follows `MockDevice::new`": its writes, in its order
abbrev pub new_writes : ℕ → List Store
new_writes dsp =
    to_eeprom at_firmware_version (dsp ∷ [])
    ∷ to_eeprom at_timestamp (big_bytes 4 42424242)
    ∷ to_eeprom at_source (big_bytes 2 0)
    ∷ to_eeprom at_master_volume (7 ∷ [])
    ∷ to_eeprom at_mute (0 ∷ [])
    ∷ to_eeprom at_preset (big_bytes 2 0)
    ∷ to_eeprom at_serial (big_bytes 2 12345)
    ∷ to_eeprom 0xFFA3 (3 ∷ [])
    ∷ []

-- "a meter at or beyond S gives 7"
abbrev pub any_beyond : ℕ → List ℕ → Bool
any_beyond s [] = false
any_beyond s (a ∷ rest) = if_lt a s (any_beyond s rest) true

-- each shows -60.0 first
abbrev pub with_meters : List ℕ → List ℕ → List ℕ
with_meters [] settings = settings
with_meters (a ∷ rest) settings = with_meters rest (put_at a (0xC2700000 ∷ []) settings)

abbrev pub new_memory : ℕ → List ℕ → Memory → Memory
new_memory dsp meters m =
    memory (store (new_writes dsp) (memory (replicate (length m.eeprom) 0xFF) [])).eeprom (with_meters meters (replicate (length m.settings) 0))

-- "A new one needs E = 65,536, else 14"
abbrev pub new_of : Device → List ℕ → Memory → Outcome Device × Memory
new_of d meters m =
    if_eq (length m.eeprom) 65536
    (if_lt 65536 (length m.settings) (refused wrong_sizes, m)
    (pick (any_beyond (length m.settings) meters) (refused outside, m)
    (accepted d, new_memory d.dsp_version meters m)))
    (refused wrong_sizes, m)
