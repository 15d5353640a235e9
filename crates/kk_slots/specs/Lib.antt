pub mod Narrowing
pub mod Problems
pub mod Turned
