-- how the code goes
pub mod Pieces
pub mod Again
