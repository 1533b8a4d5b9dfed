pub mod Accepted
pub mod Completed
pub mod Names
pub mod Parts
pub mod Laws
