pub mod Walks
pub mod Rooms
