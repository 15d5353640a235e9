pub mod Lines
pub mod Lowered
pub mod Written
