pub mod Reading
pub mod Said
pub mod PutTwo
pub mod Plain
