pub mod Letters
pub mod Pieces
