pub mod SizeLemmas
pub mod TextLemmas
