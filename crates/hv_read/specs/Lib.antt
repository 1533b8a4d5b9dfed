pub mod Made
pub mod Said
pub mod Read
pub mod Laws
