mod NumberedLaws
pub mod Unique
pub mod Promised
pub mod Boundaries
