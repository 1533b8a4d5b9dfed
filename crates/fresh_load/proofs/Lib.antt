mod Bytes
pub mod Covering
pub mod Places
mod Sizes
pub mod Starting
