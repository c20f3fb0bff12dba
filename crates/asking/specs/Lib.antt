pub mod Belonging
pub mod Impostors
pub mod Cases
