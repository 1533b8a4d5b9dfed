pub mod Fields
pub mod Page
pub mod Translation
pub mod Laws
