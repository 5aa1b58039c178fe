-- the meaning
pub mod Report
-- laws and examples
pub mod Laws
-- how the code goes
pub mod Tally
pub mod Marked
pub mod Seen
pub mod Going
pub mod Playing
pub mod Whole
