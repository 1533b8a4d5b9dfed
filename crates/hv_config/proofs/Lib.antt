pub mod Seats
pub mod Pairs
pub mod Plain
