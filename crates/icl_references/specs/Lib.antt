-- the meaning
pub mod Names
pub mod Signals
pub mod Roles
pub mod Muxes
-- how the code goes
pub mod RefRuns
pub mod Tables
pub mod Targets
pub mod Overlaps
