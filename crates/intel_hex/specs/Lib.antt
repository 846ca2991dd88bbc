pub mod Format
pub mod Reading
pub mod Faults
pub mod Writing
