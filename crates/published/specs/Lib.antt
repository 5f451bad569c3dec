pub mod CleanSources
pub mod FeedText
pub mod PlaceLines
pub mod Reread
pub mod Shortest
