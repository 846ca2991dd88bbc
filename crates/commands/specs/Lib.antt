-- Types that only src/ declares. Numbers are ℕ here, a bool is Bool, an f32 is Float, an array is a List.
-- type FirData: start usize, count usize
-- type Mux: addr Addr, max u8, arg bool, slot u8
-- enum Commands: ReadHardwareId, ReadFloats(addr u16, len u8), WriteMemory(addr u16, data Place), ReadMemory(addr u16, size u8), SetConfig(config u8, reset bool), SetSource(source u8), SetMute(value bool), SetVolume(value Gain), WriteBiquad(addr Addr), WriteBiquadBypass(addr Addr, value bool), Read(addr Addr, len u8), Write(addr Addr, value Value), FirLoadStart(index u8), FirLoadData(index u8, data FirData), FirLoadEnd, DiracBypass(value u8), BulkLoad(payload Place), BulkLoadFilterData(payload Place), Unk07(payload u8), SwitchMux(Mux), Unknown(cmd_id u8, payload Place)
-- enum AddrEncoding: AddrLen2, AddrLen3
-- enum FloatEncoding: Float32LE, FixedPoint
-- type Dialect: addr_encoding AddrEncoding, float_encoding FloatEncoding
pub mod Decode
pub mod Encode
pub mod Mute
pub mod Dialect
pub mod RoundTrip
