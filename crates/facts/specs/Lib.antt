-- Types that only src/ declares. Numbers are ℕ here, a bool is Bool, an f32 is Float, an array is a List.
-- type DeviceInfo: hw_id u8, fw_major u8, fw_minor u8, dsp_version u8, serial u32
-- type HardwareId: fw_major u8, fw_minor u8, hw_id u8
-- enum DeviceKind: Generic, M4x10Hd, M10x10Hd, MSharc4x8, M2x4Hd, Shd, DDRC24, DDRC88BM, Nanodigi2x8, C8x12v2, M2x4, Flex, FlexHtx
-- enum Source: NotInstalled, Analog, Toslink, Spdif, Usb, Aesebu, Rca, Xlr, Lan, I2S, Bluetooth, Hdmi
-- type Entry: source Source, id u8
-- type Mapping: count usize, entries [Entry; 7]
pub mod Eeprom
pub mod DeviceInfo
pub mod Source
