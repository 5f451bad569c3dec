pub mod Least
pub mod Walk
