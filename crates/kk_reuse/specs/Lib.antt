pub mod Following
pub mod Pairing
pub mod Paired
pub mod PairedForms
