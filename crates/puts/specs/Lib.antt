pub mod Laid
pub mod Fields
