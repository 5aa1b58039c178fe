-- the meaning
pub mod Report
pub mod Places
-- laws and examples
pub mod Laws
-- how the code goes
pub mod Noting
pub mod Procedure
pub mod Reaching
pub mod Asking
pub mod Scanning
