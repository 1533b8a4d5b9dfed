pub mod Bits
pub mod Ranges
pub mod Best
pub mod Floor
pub mod Chosen
pub mod Ready
pub mod Keeping
