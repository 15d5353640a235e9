pub mod Expressions
pub mod Faults
pub mod Methods
pub mod Names
pub mod Scopes
pub mod Tables
pub mod TypeNames
