pub mod MachineEquivalence
pub mod FileAgreement
pub mod Endings
pub mod FileSteps
pub mod LentNames
pub mod FileRuns
pub mod Nodes
mod TextBytes
pub mod Numbers
pub mod ImageConditions
pub mod Runs
pub mod StepWeights
pub mod WithoutLimits
