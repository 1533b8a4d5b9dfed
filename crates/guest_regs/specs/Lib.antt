pub mod State
pub mod Registers
pub mod Kept
pub mod Special
pub mod Laws
