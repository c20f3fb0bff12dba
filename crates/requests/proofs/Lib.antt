pub mod JudgedLaws
pub mod FineLaws
pub mod Unique
