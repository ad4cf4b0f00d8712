pub mod Lines
pub mod Answers
pub mod Reports
pub mod Commands
