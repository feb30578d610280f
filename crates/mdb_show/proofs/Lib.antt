pub mod JsonLines
pub mod LinesSoFar
pub mod OneShowing
pub mod SameFault
pub mod ShowTexts
pub mod Showings
pub mod Words
