pub mod Changed
pub mod ChangedPrograms
pub mod Specialised
pub mod SpecialForms
pub mod SameRuns
pub mod SpecialTokens
pub mod Numbers
