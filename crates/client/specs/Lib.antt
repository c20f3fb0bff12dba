pub mod Asking
pub mod Hearing
