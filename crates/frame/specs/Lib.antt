pub mod State
pub mod Parse
pub mod Changes
