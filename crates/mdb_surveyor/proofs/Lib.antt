pub mod Words
mod Asked
mod Leading
mod Learning
mod OneSurvey
mod FeaturesTold
pub mod Parts
mod Standing
mod Sums
mod Unanswered
mod Within
pub mod Texts
