pub mod Examples
pub mod DropRemoval
pub mod Spending
pub mod Lowerability
pub mod FusedLengths
mod Openings
mod FusedWords
mod NoPairs
pub mod DropSearch
pub mod Forms
pub mod Strips
pub mod HeapEffects
pub mod Steps
pub mod PendingDups
pub mod PendingSteps
pub mod FormBounds
pub mod Simulation
pub mod FusedRuns
pub mod FusedNotes
pub mod FusedStates
pub mod FormLimits
