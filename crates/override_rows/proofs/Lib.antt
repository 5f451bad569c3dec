mod CleanLemmas
pub mod FileLemmas
