pub mod Pieces
mod Reaching
