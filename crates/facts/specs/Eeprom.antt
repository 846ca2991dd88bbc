-- EEPROM addresses, "all addresses" of the Rust's, with its words on each. (eeprom.rs)
use Rattle.std.specs.Prelude.{ℕ, List, [], ◌∷◌}

-- "u8 Firmware Version"
abbrev pub at_firmware_version : ℕ
at_firmware_version = 0xFFA1

-- "u32 Timestamp", "Value that gets updated to a random value whenever a setting is changed."
abbrev pub at_timestamp : ℕ
at_timestamp = 0xFFC8

abbrev pub at_timestamp2x4 : ℕ
at_timestamp2x4 = 0x3FFC

-- "u8 Preset", "Current input preset"
abbrev pub at_preset : ℕ
at_preset = 0xFFD8

-- "u8 Source", "Current input source (also known as "Digital IO")"
abbrev pub at_source : ℕ
at_source = 0xFFD9

-- "u8 Source", "Only used for unsolicited update messages"
abbrev pub at_source_async : ℕ
at_source_async = 0xFFA9

-- "u8 Master Volume (also known as "Codec mute")"
abbrev pub at_master_volume : ℕ
at_master_volume = 0xFFDA

-- "u8 Mute"
abbrev pub at_mute : ℕ
at_mute = 0xFFDB

-- "u8 Dirac Live bypass (also known as: "Master FIR bypass")"
abbrev pub at_dirac_bypass : ℕ
at_dirac_bypass = 0xFFE0

-- "u8 Channel mode"
abbrev pub at_channel_mode : ℕ
at_channel_mode = 0xFFE5

-- "u32 Serial (+900000) - also known as "board id" (32 bits version)"
abbrev pub at_serial : ℕ
at_serial = 0xFFFC

-- "u16 Serial (+900000) - also known as "board id" (16 bits version)"
abbrev pub at_serial_short : ℕ
at_serial_short = 0xFFFE

-- in the Rust's order
abbrev pub addresses : List ℕ
addresses =
    at_firmware_version ∷ at_timestamp ∷ at_timestamp2x4 ∷ at_preset ∷ at_source ∷ at_source_async
    ∷ at_master_volume ∷ at_mute ∷ at_dirac_bypass ∷ at_channel_mode ∷ at_serial ∷ at_serial_short ∷ []
