pub mod Writing
pub mod Cycles
pub mod Shaping
pub mod Rounds
pub mod Counting
