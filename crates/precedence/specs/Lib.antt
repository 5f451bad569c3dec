pub mod Chunks
pub mod CutPoints
pub mod Delegations
pub mod Rows
pub mod Runs
pub mod Why
