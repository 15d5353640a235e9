pub mod Written
pub mod TokenedWritten
pub mod TokenedFunctions
