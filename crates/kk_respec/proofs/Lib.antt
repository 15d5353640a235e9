pub mod Forms
mod Measures
mod RespecialisedWords
mod Pairs
mod Lowerability
mod AllKnown
pub mod KnownTokens
pub mod StepMarks
mod Examples
