pub mod Opened
pub mod Sealed
pub mod Checked
pub mod Lines
