mod BlockBytes
pub mod CleanFeeds
pub mod CleanRecords
pub mod CleanRows
pub mod CleanStats
pub mod EachLemmas
pub mod FileLemmas
pub mod LineReads
pub mod LineText
pub mod Numbering
mod PlainLemmas
pub mod Renumber
pub mod Shortest
pub mod Texts
