pub mod GrowLaws
pub mod WayLaws
pub mod Boundaries
pub mod Unique
