pub mod Adding
pub mod Changes
pub mod Drawn
pub mod Loops
