-- the meaning
pub mod FirstPass
-- laws and examples
pub mod Laws
-- how the code goes
pub mod Preorder
pub mod SeenFrames
pub mod Written
