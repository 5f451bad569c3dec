pub mod EmptyJobs
pub mod LawLemmas
pub mod LimitLemmas
pub mod NameLemmas
pub mod OrderLemmas
pub mod TextLemmas
pub mod WordLemmas
