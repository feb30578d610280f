pub mod Changer
pub mod Covering
pub mod CutWords
pub mod Cutting
pub mod EndRuns
pub mod EndVerdicts
pub mod ExtendedMoves
pub mod InEnds
pub mod Keepers
pub mod OpenEnds
pub mod OpenFaults
pub mod ReaderOtherwise
pub mod ReaderPrices
pub mod Readers
pub mod ToldCuts
pub mod Truth
pub mod Validator
mod Words
