pub mod Unread
pub mod Faults
pub mod Keeps
pub mod Stores
pub mod Reading
pub mod Heading
pub mod Releasing
pub mod Gathering
