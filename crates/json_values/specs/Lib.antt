pub mod Json
pub mod JsonData
