pub mod Explain
pub mod Replay
pub mod inner
