pub mod Frames
pub mod FreeOf
pub mod Machines
pub mod Marks
pub mod Performs
pub mod Turns
pub mod View
