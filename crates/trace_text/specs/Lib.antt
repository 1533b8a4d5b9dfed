pub mod Acts
pub mod Ends
pub mod Refusals
