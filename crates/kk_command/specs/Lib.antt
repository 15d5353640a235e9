pub mod Commands
pub mod ProgramSizes
pub mod Requests
