mod Examples
pub mod FrameValues
pub mod Labels
pub mod LineIndices
pub mod LinePlaces
pub mod Frames
pub mod LineActions
pub mod LeafSteps
pub mod Steps
pub mod Simulation
pub mod Starts
pub mod OwnLines
pub mod ValueCounts
pub mod Aliveness
pub mod HeldValues
pub mod WellFormedness
pub mod NamedValues
pub mod CodeGrowth
