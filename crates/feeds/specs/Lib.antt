pub mod Alike
pub mod NumScan
pub mod LineScan
pub mod LineHeard
pub mod Front
pub mod Feed
pub mod Bounds
