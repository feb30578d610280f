pub mod Goals
pub mod Marks
pub mod ReplayFaults
pub mod Replays
pub mod Tracks
pub mod inner
