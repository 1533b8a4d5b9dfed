pub mod Limits
pub mod Ranges
pub mod Private
pub mod Sound
pub mod Joined
