pub mod CutPoints
pub mod Marks
pub mod Segments
