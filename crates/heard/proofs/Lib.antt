pub mod Scanning
pub mod Going
