pub mod BoundedLaws
pub mod Unique
