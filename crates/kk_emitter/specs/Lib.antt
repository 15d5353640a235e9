pub mod Computing
pub mod Drafts
pub mod Emissions
pub mod Emitting
pub mod TokenDrafts
pub mod TokenEmitting
pub mod Works
