mod Following
mod Verdicts
mod Words
