pub mod Compute
pub mod Scripts
pub mod Accepted
pub mod Images
