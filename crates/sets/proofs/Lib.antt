pub mod Tasks
pub mod Members
