pub mod Held
pub mod Sizes
