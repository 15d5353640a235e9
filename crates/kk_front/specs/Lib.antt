pub mod Chain
pub mod Judgement
pub mod Outcome
