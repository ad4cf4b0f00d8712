pub mod Powers
pub mod Calls
