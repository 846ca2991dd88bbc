-- Types that only src/ declares. Numbers are ℕ here, a bool is Bool, an f32 is Float, an array is a List.
-- type Addr: val u32, len u8, extra_bit bool
-- enum Field: Nothing, Byte(u8), Word(u16), Address(Addr), Coded(Value), Payload(Place), Floats(start usize, count usize)
-- enum Value: Float(f32), FixedPoint(FixedPoint), Int(u16), Int32(u32), Unknown(Place)
pub mod Addr
pub mod Value
pub mod Row
pub mod Back
-- what only private functions promise: a reader who believes only the public contracts can stop here
pub mod Inside
