pub mod Ends
pub mod Entries
pub mod Fields
pub mod OneFault
pub mod OneOption
pub mod PlainReplays
pub mod QuietRows
pub mod Ring
pub mod RiseLists
pub mod Rising
pub mod Surveys
pub mod Turns
pub mod Walks
mod Words
