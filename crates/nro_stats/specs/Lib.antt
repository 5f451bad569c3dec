pub mod Fields
pub mod File
pub mod Outcomes
pub mod Parts
pub mod Reading
pub mod Words
