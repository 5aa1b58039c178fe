pub mod More
pub mod BodyLaws
pub mod ItemLaws
pub mod DesignLaws
pub mod Verdicts
pub mod Uniqueness
