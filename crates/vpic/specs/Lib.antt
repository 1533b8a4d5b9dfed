pub mod Numbers
pub mod Controller
pub mod Choice
pub mod Calls
pub mod Kept
pub mod Search
pub mod Laws
