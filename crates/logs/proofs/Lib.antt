pub mod Exact
pub mod Accepts
