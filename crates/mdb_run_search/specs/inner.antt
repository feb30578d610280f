pub mod AllPaths
pub mod Chains
pub mod Merges
pub mod Paths
pub mod ReplayActs
pub mod Seekers
pub mod TracksLed
pub mod Weights
