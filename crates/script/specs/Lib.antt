pub mod Text
pub mod Form
pub mod Meaning
pub mod Course
pub mod Kept
pub mod Fault
pub mod Steps
pub mod Marked
