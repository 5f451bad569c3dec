mod CleanLemmas
pub mod FileLemmas
mod PartLemmas
mod TailLemmas
