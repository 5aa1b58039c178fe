-- the meaning
pub mod Paths
pub mod Registers
pub mod Numbers
pub mod Instruments
pub mod Differs
pub mod Totalled
