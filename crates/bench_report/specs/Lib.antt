-- the meaning
pub mod Report
pub mod MadeReport
