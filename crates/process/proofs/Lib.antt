pub mod ProcessLaws
pub mod Boundaries
pub mod Impostors
pub mod Unique
