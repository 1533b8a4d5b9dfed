pub mod Properties
pub mod Tokens
pub mod Rows
pub mod Guest
pub mod Laws
