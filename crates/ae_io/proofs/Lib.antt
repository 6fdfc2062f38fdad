pub mod Moves
mod Pieces
