pub mod Streams
pub mod Judging
pub mod Meaning
pub mod Sound
pub mod Determined
