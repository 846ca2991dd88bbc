pub mod Tallies
pub mod Counting
pub mod Said
pub mod Values
pub mod Determined
