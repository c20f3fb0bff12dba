pub mod External
pub mod Answers
