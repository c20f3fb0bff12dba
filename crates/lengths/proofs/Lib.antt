pub mod GuessLaws
pub mod FrameLength
pub mod Boundaries
pub mod Impostors
pub mod Unique
