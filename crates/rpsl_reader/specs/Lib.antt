pub mod Attributes
pub mod Changes
pub mod Ended
pub mod Laws
pub mod Objects
pub mod Reading
pub mod Selections
pub mod Sights
