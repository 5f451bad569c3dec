pub mod BitsLemmas
pub mod Blocks
pub mod Cuts
pub mod Decimals
pub mod LineLemmas
pub mod PrefixLemmas
mod DottedTexts
mod FamilyLemmas
mod FrontLemmas
mod GroupLemmas
mod GroupTexts
mod PartLemmas
mod ReadBack
mod SideLemmas
mod SpanLemmas
mod V4Lemmas
mod V6Lemmas
