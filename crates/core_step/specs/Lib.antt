pub mod Pages
pub mod Access
pub mod Step
pub mod Core
pub mod Lending
pub mod Touches
pub mod Laws
