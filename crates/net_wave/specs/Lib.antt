-- the meaning
pub mod Vars
pub mod Values
pub mod Codes
pub mod Header
pub mod Moments
pub mod Wave
-- laws and examples
pub mod Laws
-- how the code goes
pub mod Changes
pub mod Left
pub mod Reader
pub mod Names
pub mod Whole
pub mod Widths
pub mod Scopes
pub mod Files
