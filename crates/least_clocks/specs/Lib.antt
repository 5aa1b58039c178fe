-- the meaning
pub mod Inside
pub mod Least
-- laws and examples
pub mod Law
-- how the code goes
pub mod Counting
