pub mod Places
pub mod Putting
pub mod Runs
pub mod Entries
pub mod Meaning
pub mod Going
pub mod Walking
mod Sizes
pub mod Brought
pub mod Pieces
