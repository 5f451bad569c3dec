-- The run of a command: what it is to do, how it comes out, and what each answer leaves.
pub mod Answers
pub mod Causes
pub mod CleanWorlds
pub mod Closes
pub mod Ending
pub mod Ends
pub mod Feeds
pub mod Generated
pub mod Lines
pub mod LookupEnds
pub mod Pieces
pub mod Plans
pub mod Stopped
