pub mod Codes
pub mod Given
pub mod Options
