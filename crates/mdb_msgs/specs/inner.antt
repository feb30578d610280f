pub mod OneMessage
pub mod SetupAsked
