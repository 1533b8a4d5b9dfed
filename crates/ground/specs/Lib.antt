pub mod Extents
pub mod Own
