pub mod Written
pub mod Stores
pub mod Fills
pub mod Meters
pub mod Puts
pub mod Determined
pub mod Refusals
