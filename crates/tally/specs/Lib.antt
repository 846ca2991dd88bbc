-- Types that only src/ declares. Numbers are ℕ here, a bool is Bool, an f32 is Float, an array is a List.
-- type Tally: accepted u32, refused u32
pub mod Tally
