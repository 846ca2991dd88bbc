pub mod Storing
pub mod Saved
pub mod Fields
pub mod Writes
pub mod Rising
pub mod Round
pub mod Determined
