pub mod Process
pub mod Resumed
