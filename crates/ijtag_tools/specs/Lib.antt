-- what is promised, in the order of reading
pub mod Command
pub mod Graphs
pub mod Order
pub mod Tight
pub mod Promises
-- how the code goes
pub mod Words
pub mod SeenGraphs
pub mod Planned
