pub mod EnvelopeLaws
pub mod Boundaries
pub mod Unique
