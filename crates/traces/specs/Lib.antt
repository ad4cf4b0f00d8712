pub mod Traces
pub mod Given
pub mod Step
pub mod NoneDue
