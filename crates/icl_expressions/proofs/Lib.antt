pub mod Tokens
pub mod Symbols
pub mod Operators
pub mod Factors
pub mod Chains
pub mod Steps
pub mod Lists
pub mod SignalLaws
