pub mod Sizes
pub mod Memory
pub mod Assembled
pub mod FreeCells
pub mod Images
pub mod TokenStates
