pub mod Save
pub mod Replay
pub mod Writes
