pub mod Functions
pub mod NodeExistence
pub mod PrincipalTypings
pub mod ProgramOutcome
pub mod WalkOutcome
