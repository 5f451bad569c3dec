pub mod Codes
pub mod Count
pub mod Files
pub mod Puts
pub mod Script
