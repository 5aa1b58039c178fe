-- the meaning
pub mod Runs
