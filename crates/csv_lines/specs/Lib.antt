pub mod Clean
pub mod Doubled
pub mod Fields
pub mod FieldsLaw
pub mod Repeats
pub mod Rests
pub mod Tails
