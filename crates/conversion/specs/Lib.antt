pub mod Defaults
pub mod PutIn
pub mod Conversion
pub mod NeverOver
pub mod CallConvert
pub mod Example
