pub mod Draws
pub mod Names
pub mod Meant
pub mod Files
pub mod Tokens
pub mod Bundle
pub mod Laws
