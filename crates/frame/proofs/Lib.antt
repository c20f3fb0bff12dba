pub mod StateLaws
pub mod ParseLaws
pub mod Boundaries
pub mod Unique
