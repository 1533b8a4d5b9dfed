pub mod Header
pub mod Segment
pub mod Piece
pub mod Image
