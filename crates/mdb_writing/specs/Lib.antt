pub mod Answers
pub mod Output
pub mod Written
