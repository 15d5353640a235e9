pub mod AcceptedPrograms
pub mod Bounds
pub mod Chains
pub mod CheckedPrograms
pub mod TextJudgements
