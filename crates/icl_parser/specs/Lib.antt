-- the meaning
pub mod Refusals
-- laws and examples
pub mod Laws
-- how the code goes
pub mod SeenParts
pub mod Reading
