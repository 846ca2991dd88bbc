pub mod Others
pub mod Determined
