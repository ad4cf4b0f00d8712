pub mod Lists
pub mod Sums
pub mod Fill
pub mod Fuse
pub mod Tests
pub mod Holds
