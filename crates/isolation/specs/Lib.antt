pub mod Isolation
pub mod Laws
pub mod Agreement
pub mod Example
