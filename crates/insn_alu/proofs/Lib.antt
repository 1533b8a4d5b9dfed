pub mod Powers
pub mod Digits
pub mod Words
pub mod Completion
