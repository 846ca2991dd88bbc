pub mod Types
pub mod History
pub mod Restores
pub mod Tallied
