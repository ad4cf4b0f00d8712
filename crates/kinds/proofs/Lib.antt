pub mod Order
pub mod Opening
