pub mod Translation
pub mod Slots
pub mod Invalidation
pub mod Ending
pub mod Kept
pub mod Laws
