pub mod Held
pub mod Gathers
