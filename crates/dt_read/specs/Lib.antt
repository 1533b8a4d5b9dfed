pub mod Given
pub mod HeaderView
pub mod Built
