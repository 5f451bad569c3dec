pub mod Pieces
pub mod Stretches
