pub mod Numbers
pub mod Fields
pub mod Rows
pub mod Transfers
pub mod Completion
pub mod Exec
