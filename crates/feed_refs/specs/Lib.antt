pub mod Dates
pub mod Dumps
pub mod Kinds
pub mod Laws
pub mod Readings
pub mod References
pub mod Urls
pub mod Used
