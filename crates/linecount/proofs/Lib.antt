pub mod CrcLaws
pub mod StartLaws
pub mod TableLaws
pub mod IndexLaws
pub mod ReadingLaws
