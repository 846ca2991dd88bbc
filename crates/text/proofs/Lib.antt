pub mod Digits
pub mod Reading
pub mod Determined
pub mod Back
