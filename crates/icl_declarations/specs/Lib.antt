-- the meaning
pub mod Parts
pub mod Ranges
pub mod Naming
pub mod Counting
pub mod Faults
pub mod Values
pub mod Sized
pub mod Expressions
pub mod Widths
-- laws and examples
pub mod Examples
-- how the code goes
pub mod Scopes
pub mod Taken
pub mod Tables
