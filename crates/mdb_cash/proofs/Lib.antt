pub mod Words
pub mod DispenseWays
pub mod Escrows
pub mod Wider
