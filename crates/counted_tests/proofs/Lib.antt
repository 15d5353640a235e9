pub mod FunctionMarks
pub mod TokenJoins
