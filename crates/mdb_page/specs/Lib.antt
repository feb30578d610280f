pub mod Acts
pub mod Answers
pub mod Lines
pub mod Options
pub mod Replays
pub mod Rises
pub mod Surveys
pub mod inner
