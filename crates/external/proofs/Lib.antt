pub mod CallLaws
pub mod ErrorLaws
pub mod ReadLaws
pub mod WriteLaws
pub mod Boundaries
pub mod Unique
