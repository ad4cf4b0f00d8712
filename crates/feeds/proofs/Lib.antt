pub mod LineScan
pub mod LineHeard
pub mod Returned
pub mod Feed
pub mod Bounds
