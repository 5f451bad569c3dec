mod Vectors
mod Offsets
mod Heads
mod Values
mod Containers
pub mod ReadsBack
pub mod Views
pub mod Fine
pub mod Written
pub mod Leads
pub mod Parts
pub mod Loops
pub mod Bounds
pub mod Pointed
pub mod Keys
pub mod Packs
pub mod Keeps
pub mod SpelledTexts
pub mod Table
pub mod KnownKeys
pub mod PackedReads
pub mod Appending
pub mod Nested
mod PackedVectors
