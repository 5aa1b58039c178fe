-- the meaning
pub mod Scans
pub mod Notes
pub mod Explained
pub mod Places
pub mod Before
-- laws and examples
pub mod Laws
pub mod Examples
-- how the code goes
pub mod Packed
pub mod Heads
pub mod Most
pub mod Targets
pub mod Left
pub mod Reader
pub mod Noted
