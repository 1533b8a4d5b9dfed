pub mod Recording
pub mod Alone
pub mod Fits
pub mod Replay
pub mod Laws
pub mod Example
