-- how the code goes
pub mod Files
pub mod Svf
pub mod Testing
pub mod InMemory
