pub mod Needed
pub mod Stepped
pub mod Calm
