pub mod Described
pub mod Fresh
pub mod Loading
pub mod Placed
