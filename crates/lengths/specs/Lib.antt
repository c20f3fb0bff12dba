pub mod Guess
pub mod Side
pub mod PortedAsk
