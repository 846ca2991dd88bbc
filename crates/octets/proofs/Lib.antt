pub mod Choosing
pub mod Outcomes
pub mod Overlay
pub mod Agree
pub mod Determined
pub mod InBytes
pub mod Parts
pub mod Bytes
