pub mod Limits
pub mod Numbered
pub mod Desc
pub mod Wired
