pub mod Parts
pub mod Numerals
pub mod Marks
pub mod Places
pub mod Keeping
