-- the meaning
pub mod Texts
pub mod Commands
pub mod Values
pub mod Meaning
pub mod Answers
-- laws and examples
pub mod Examples
-- how the code goes
pub mod Reading
pub mod Passed
pub mod Seen
pub mod Scripts
