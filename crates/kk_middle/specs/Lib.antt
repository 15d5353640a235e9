pub mod LentNames
pub mod Compiled
pub mod Meaning
pub mod MarkedPrograms
pub mod ShapeKinds
pub mod Lowerings
pub mod TokenLowerings
pub mod FunctionWords
