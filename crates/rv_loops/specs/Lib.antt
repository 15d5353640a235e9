pub mod Rotation
pub mod Relation
pub mod Heads
pub mod RotatedLines
