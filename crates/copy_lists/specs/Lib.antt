pub mod Spans
pub mod Lists
pub mod Moving
pub mod Laws
pub mod Pieces
