pub mod Fits
pub mod Lines
pub mod Adding
pub mod Determined
