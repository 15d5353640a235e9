pub mod MappedLists
pub mod TakenBack
pub mod BareForm
mod Examples
pub mod TokenSpending
pub mod Pairs
pub mod Programs
pub mod TokenRoom
mod Lengths
mod LeftFields
mod Lowerability
pub mod LaterForms
pub mod Walks
pub mod Steps
pub mod WrittenSteps
mod PairedWords
