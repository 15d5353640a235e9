pub mod CallFrames
mod CodeDemands
mod ChosenArms
mod Examples
pub mod ListExamples
pub mod PartBounds
mod TypeSafety
mod SafeRuns
mod SafeSteps
mod VariableFacts
pub mod ValueKinds
pub mod Truths
mod TypedExamples
mod TypedStates
