pub mod Laws
pub mod Layout
pub mod Marks
pub mod NodeList
pub mod NumberSet
pub mod Order
pub mod Together
