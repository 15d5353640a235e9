mod EvaluationSteps
pub mod Evaluations
