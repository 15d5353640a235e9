pub mod Examples
mod ExampleRuns
mod MachineExamples
pub mod Acts
pub mod Bits
pub mod Bytes
pub mod Cases
pub mod Copies
pub mod WordEffects
pub mod Instructions
pub mod Memory
pub mod Parts
pub mod ImageAgreements
pub mod ProcessorMachines
pub mod Products
pub mod Reading
pub mod Registers
pub mod Runs
pub mod RangeEquality
pub mod Standing
pub mod SameWords
pub mod Steps
pub mod Calls
pub mod HeldTokens
pub mod OwnActions
pub mod ValueBounds
