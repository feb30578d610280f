pub mod EntryByEntry
pub mod ExplainedTexts
pub mod ExplanationLengths
pub mod Explanations
pub mod MarkAnswers
pub mod OneReplayAnswer
pub mod ReplayedExplanations
pub mod ReplayedTranscripts
mod Words
