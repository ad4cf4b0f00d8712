pub mod Same
pub mod NoneWait
