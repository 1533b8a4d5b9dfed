pub mod Call
pub mod Status
pub mod Payload
pub mod Reply
pub mod Laws
