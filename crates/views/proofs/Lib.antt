pub mod Found
pub mod Cut
pub mod Parts
pub mod Joined
pub mod Elements
pub mod Across
pub mod Determined
