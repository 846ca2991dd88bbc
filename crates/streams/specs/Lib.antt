-- Types that only src/ declares. Numbers are ℕ here, a bool is Bool, an f32 is Float, an array is a List.
-- type Shape: eeprom usize, settings usize
pub mod Stream
pub mod Means
pub mod Judge
-- what only private functions promise: a reader who believes only the public contracts can stop here
pub mod Inside
