pub mod Sources
pub mod Determined
