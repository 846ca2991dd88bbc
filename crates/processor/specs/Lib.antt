-- Types that only src/ declares. Numbers are ℕ here, a bool is Bool, an f32 is Float, an array is a List.
-- type Device: hw_id u8, dsp_version u8, fw_major u8, fw_minor u8, kind DeviceKind, fir_max_taps u16
-- enum Change: Nothing, EepromByte(addr u16, value u8), EepromBytes(addr u16, data Place), SettingsWord(addr u32, value u32)
pub mod Memory
pub mod Create
pub mod Calls
pub mod Change
pub mod Puts
