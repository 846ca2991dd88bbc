pub mod Addrs
pub mod Rows
pub mod Settled
pub mod Back
pub mod Again
pub mod Determined
