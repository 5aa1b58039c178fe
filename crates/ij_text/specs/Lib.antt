-- the meaning
pub mod Places
pub mod Bytes
pub mod Numbering
pub mod Words
pub mod Parts
pub mod Options
pub mod Numbers
pub mod Symbol
pub mod Refusal
-- laws and examples
pub mod Examples
-- how the code goes
pub mod Answers
pub mod Reading
