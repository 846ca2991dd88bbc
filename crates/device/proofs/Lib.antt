pub mod Words
pub mod Payload
pub mod Answers
pub mod Determined
pub mod Refusals
pub mod Effects
pub mod Accepted
