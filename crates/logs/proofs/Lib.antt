pub mod SearchLaws
pub mod FirstLaws
pub mod CountLaws
pub mod LogLaws
pub mod Pieces
pub mod Plainly
pub mod CaseTable
pub mod Unique
