-- the meaning
pub mod Said
pub mod Lines
pub mod Words
-- how the code goes
pub mod SeenSaid
pub mod Parted
pub mod Reading
