pub mod Counting
pub mod Whole
pub mod Counted
