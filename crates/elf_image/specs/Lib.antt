pub mod Fields
pub mod Loaded
pub mod Parts
pub mod Program
pub mod Reading
pub mod Reasons
