pub mod Matches
pub mod Short
pub mod Cuts
pub mod Unique
pub mod Total
pub mod Fronts
pub mod Cursors
pub mod FewTokens
