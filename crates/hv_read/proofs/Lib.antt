pub mod Remade
pub mod Said
pub mod Config
pub mod Board
pub mod Same
pub mod Answers
