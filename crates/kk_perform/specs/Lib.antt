pub mod Answers
pub mod ImageRuns
pub mod Internal
pub mod Outside
pub mod SourceRuns
