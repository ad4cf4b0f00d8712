pub mod Clipped
pub mod Answered
pub mod Kept
pub mod Copies
