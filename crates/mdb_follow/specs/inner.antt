pub mod Entries
pub mod FollowerActs
pub mod SidesLed
