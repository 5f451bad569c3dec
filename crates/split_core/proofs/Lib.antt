pub mod Edges
pub mod Multiples
pub mod Rooms
pub mod LeastList
