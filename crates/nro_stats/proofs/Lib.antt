pub mod CountryLemmas
pub mod FileLemmas
mod LineLemmas
mod PartLemmas
mod ReadingLemmas
mod TrimLemmas
mod WordLemmas
