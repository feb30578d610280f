pub mod Texts
mod Words
