pub mod ReserveMaps
pub mod NameSets
pub mod Verdicts
pub mod Steps
pub mod Places
pub mod Progress
pub mod Whole
