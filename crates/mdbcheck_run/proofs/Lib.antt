mod Asides
pub mod Status
