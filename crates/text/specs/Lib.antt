pub mod Digits
pub mod Read
pub mod Lines
