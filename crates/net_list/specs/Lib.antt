-- the meaning
pub mod Fewest
pub mod Forms
pub mod Drivers
pub mod Outputs
pub mod Lines
pub mod Listing
-- laws and examples
pub mod Examples
