pub mod Accounts
pub mod Known
pub mod Text
