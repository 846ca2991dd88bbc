-- Types that only src/ declares. Numbers are ℕ here, a bool is Bool, an f32 is Float, an array is a List.
-- type FixedPoint: 0 u32
-- type Gain: 0 f32
pub mod Pattern
pub mod Gain
pub mod FixedPoint
pub mod Format
pub mod Ieee
