pub mod GatherLemmas
mod CutLemmas
mod PartLemmas
mod WholeLemmas
