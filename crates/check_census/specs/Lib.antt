pub mod Census
pub mod Counts
pub mod Laws
pub mod Spread
pub mod Sweep
pub mod Tally
pub mod Texts
pub mod Verdicts
