pub mod Collected
pub mod Waits
pub mod Cases
