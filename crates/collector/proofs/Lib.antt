pub mod PartLaws
pub mod CollectedLaws
pub mod FrameLaws
pub mod Unique
pub mod Grouped
pub mod CaseTable
