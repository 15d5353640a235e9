mod Benches
mod FaultAbsence
mod ImageRuns
mod Rows
mod SourceRuns
mod Stores
