pub mod Places
pub mod ReadSoFar
pub mod WrittenSoFar
pub mod PiecesSoFar
