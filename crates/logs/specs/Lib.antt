pub mod Search
pub mod Log
pub mod Records
pub mod Cases
