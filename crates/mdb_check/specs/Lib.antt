pub mod Json
pub mod Spared
pub mod Unfollowed
pub mod Unjudged
pub mod Verdict
pub mod inner
