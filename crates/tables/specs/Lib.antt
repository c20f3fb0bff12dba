pub mod Calls
pub mod Runs
pub mod Lent
pub mod Kept
