-- the meaning
pub mod Signals
pub mod Path
pub mod Chain
pub mod Resets
pub mod Named
pub mod Nets
pub mod Devices
pub mod SeenSteps
pub mod Groups
pub mod Steps
pub mod Held
pub mod MuxesMet
pub mod Stuck
pub mod Writes
pub mod PathNames
-- laws and examples
pub mod OneRegister
pub mod MarkLaws
-- how the code goes
pub mod Spotted
pub mod SpotRuns
pub mod Tracing
pub mod Selects
pub mod Marks
pub mod MarkedSelects
pub mod Numbered
pub mod RowTables
