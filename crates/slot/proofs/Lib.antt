pub mod Settling
pub mod Opening
pub mod Working
pub mod Slots
