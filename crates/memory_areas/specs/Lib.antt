pub mod Place
pub mod Kept
pub mod Laws
