pub mod Blamed
pub mod Firsts
pub mod Counts
pub mod Texts
