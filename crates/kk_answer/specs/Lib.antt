pub mod Answer
pub mod Ending
pub mod Line
pub mod Pieces
pub mod Puts
