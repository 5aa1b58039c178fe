-- how the code goes
pub mod Seen
pub mod SeenParts
pub mod Reading
