pub mod Letters
pub mod Records
pub mod Spelled
pub mod Cut
pub mod Fitting
pub mod Texts
pub mod Refused
pub mod Written
