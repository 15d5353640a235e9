pub mod Claims
pub mod Steps
pub mod Walks
