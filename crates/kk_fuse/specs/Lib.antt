pub mod Fused
pub mod FusedForms
pub mod FusedRuns
pub mod NoPairs
