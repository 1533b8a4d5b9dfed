pub mod Counting
pub mod Walking
pub mod Spans
pub mod Ends
pub mod Apart
pub mod Parts
