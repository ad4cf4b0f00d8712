pub mod Counting
pub mod Trace
pub mod Quiet
pub mod Going
