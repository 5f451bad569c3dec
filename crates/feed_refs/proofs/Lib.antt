pub mod DateLemmas
pub mod DumpForm
pub mod FeedLemmas
pub mod GroupLines
mod ItemLemmas
pub mod KindLemmas
pub mod LineOrder
mod NoteOrder
pub mod ObjectLines
pub mod ReadingLemmas
pub mod Rising
pub mod UrlLemmas
pub mod WantedLemmas
