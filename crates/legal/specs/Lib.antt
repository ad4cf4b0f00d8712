pub mod Firsts
pub mod Passing
pub mod Legal
pub mod Settled
