pub mod Batches
pub mod Endings
pub mod Ends
pub mod Fields
pub mod Headline
pub mod OneAnswer
pub mod Rows
pub mod Taking
pub mod Tellings
pub mod Verdicts
mod Words
