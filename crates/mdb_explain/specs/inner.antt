pub mod Entries
pub mod Explaining
pub mod Replaying
