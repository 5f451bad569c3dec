pub mod Choice
pub mod Laws
pub mod Lines
pub mod Memo
pub mod Price
pub mod Sets
