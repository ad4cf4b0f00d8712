pub mod Blames
pub mod Agrees
