pub mod Approvals
pub mod Guesses
pub mod KnowingReader
pub mod PlainReader
pub mod ReaderSaid
