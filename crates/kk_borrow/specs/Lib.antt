pub mod Demands
pub mod Rules
pub mod Standings
pub mod Statements
