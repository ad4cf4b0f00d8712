pub mod Marks
pub mod Order
pub mod Extremes
pub mod Keys
pub mod Passes
pub mod Choice
