pub mod Faults
pub mod Said
pub mod Taken
