pub mod Adding
pub mod Moving
pub mod Passing
pub mod Bounded
pub mod Counted
pub mod Stepping
pub mod Examples
