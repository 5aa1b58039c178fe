-- the meaning
pub mod Layout
pub mod Canonical
-- laws and examples
pub mod Examples
-- how the code goes
pub mod Pieces
pub mod Again
