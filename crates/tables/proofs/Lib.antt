pub mod CallsLaws
pub mod EightLaws
pub mod RunsLaws
pub mod CoilsUnique
pub mod RegistersUnique
pub mod Boundaries
