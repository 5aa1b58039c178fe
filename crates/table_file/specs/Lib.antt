-- the meaning
pub mod Tables
-- how the code goes
pub mod Small
pub mod Answers
pub mod Formed
