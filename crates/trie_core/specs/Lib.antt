pub mod Compact
pub mod Graft
pub mod Laws
pub mod NearHash
pub mod Paint
pub mod Pairs
pub mod Store
pub mod Tree
