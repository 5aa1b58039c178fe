-- the meaning
pub mod Plans
-- how the code goes
pub mod Room
pub mod Packed
pub mod Session
pub mod Writing
pub mod Scripts
pub mod Files
