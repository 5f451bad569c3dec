pub mod Held
pub mod Kinds
pub mod Members
pub mod Ranked
pub mod Voices
