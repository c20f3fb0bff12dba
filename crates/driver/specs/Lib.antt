pub mod Driven
pub mod Serving
