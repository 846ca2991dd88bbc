-- Types that only src/ declares. Numbers are ℕ here, a bool is Bool, an f32 is Float, an array is a List.
-- type FloatView: base u16, start usize, count usize
-- type MemoryView: base u16, data Place
pub mod View
pub mod Reading
pub mod Joining
