pub mod Printed
pub mod Faults
pub mod Parts
pub mod Playable
pub mod Turns
pub mod Steps
pub mod Deciding
mod NestedTotals
pub mod Totals
pub mod Devices
