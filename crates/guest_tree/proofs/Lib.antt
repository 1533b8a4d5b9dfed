pub mod Made
pub mod Rows
pub mod Checked
pub mod Fit
pub mod Sizes
pub mod Weights
pub mod Guests
