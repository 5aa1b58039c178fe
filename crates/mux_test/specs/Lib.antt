-- the meaning
pub mod Test
pub mod Seen
pub mod Reported
pub mod Laws
-- how the code goes
pub mod Flushes
pub mod Reading
pub mod Texts
pub mod Steps
pub mod KnownRows
pub mod Planned
pub mod Detours
pub mod Judged
pub mod Judging
pub mod Given
pub mod GivenCode
