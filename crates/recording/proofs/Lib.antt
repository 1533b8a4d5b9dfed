pub mod Along
pub mod Fitting
pub mod Growing
pub mod Replaying
pub mod SmallCases
