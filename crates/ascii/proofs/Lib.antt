pub mod ReadingLaws
pub mod PlainLaws
pub mod SpeltLaws
pub mod RoundTrip
pub mod Boundaries
pub mod Unique
