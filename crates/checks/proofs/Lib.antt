pub mod FourLaws
pub mod WithinLaws
pub mod Unique
pub mod Boundaries
pub mod DigitLaws
