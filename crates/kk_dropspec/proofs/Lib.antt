pub mod ChangedSteps
pub mod ChangedFunctions
pub mod CodeChanges
pub mod Spending
pub mod Steps
pub mod Runs
pub mod Tokens
pub mod Forms
pub mod SpecialKinds
pub mod Lowerability
pub mod CodeLengths
pub mod NumberForms
pub mod FunctionLoop
pub mod Openings
pub mod CodeWords
mod SpecialWords
