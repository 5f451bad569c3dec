pub mod CutLemmas
pub mod InsideLemmas
pub mod JoinedLemmas
pub mod SegmentLemmas
