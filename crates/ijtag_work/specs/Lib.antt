-- what is promised, in the order of reading
pub mod Command
pub mod Loads
pub mod Accepted
pub mod Inputs
pub mod Leaves
pub mod Task
pub mod Order
pub mod Stops
pub mod Runs
pub mod Ends
pub mod Promises
pub mod Headline
pub mod Audited
pub mod Tested
pub mod ByStatus
pub mod Codes
-- how the code goes
pub mod Seen
pub mod Words
pub mod Using
pub mod Follows
pub mod Filed
pub mod Late
pub mod Naming
pub mod Laws
