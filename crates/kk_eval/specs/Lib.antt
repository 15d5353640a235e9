pub mod EvaluationStates
pub mod Evaluations
