pub mod Conditions
mod Examples
pub mod SegmentLists
pub mod ProgramFile
