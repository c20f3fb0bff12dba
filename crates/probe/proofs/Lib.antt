pub mod Unique
pub mod Module4Unique
