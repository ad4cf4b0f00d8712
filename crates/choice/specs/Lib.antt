pub mod Turns
pub mod Keys
pub mod Lowered
