-- What commands beside `build` do behind the sources of their job.
pub mod Census
pub mod Check
pub mod Explain
pub mod Generate
pub mod Last
pub mod Publish
