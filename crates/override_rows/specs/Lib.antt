pub mod File
pub mod Outcomes
