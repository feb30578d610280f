pub mod Words
pub mod Entries
pub mod Numerals
pub mod Rows
pub mod Sums
pub mod BlockWords
pub mod Blocks
