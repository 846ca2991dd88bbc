-- Types that only src/ declares. Numbers are ℕ here, a bool is Bool, an f32 is Float, an array is a List.
-- type Place: start usize, len usize
-- enum Refusal: Empty, Short, Ends, FewValues, TooLong, NoRoom, Outside, AddressLength, WrongChecksum, Trailing, Apart, OtherKind, WrongField, WrongSizes, PastEnd, Malformed, RecordChecksum, NamedTwice
pub mod Refusals
pub mod Outcome
pub mod Choice
pub mod Over
pub mod Number
pub mod Place
pub mod Reading
