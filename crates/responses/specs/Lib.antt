-- Types that only src/ declares. Numbers are ℕ here, a bool is Bool, an f32 is Float, an array is a List.
-- enum Responses: Ack, Read(addr Addr, data Values), MemoryData(MemoryView), FloatData(FloatView), HardwareId(HardwareId), FirLoadSize(size u16), ConfigChanged, Unk02, Unknown(cmd_id u8, payload Place)
-- enum Values: Chunks(Place), One(Value)
-- type MasterStatus: preset Option<u8>, source Option<Source>, volume Option<Gain>, mute Option<bool>, dirac Option<bool>
pub mod Decode
pub mod Values
pub mod Encode
pub mod ByKind
pub mod Matching
pub mod Status
