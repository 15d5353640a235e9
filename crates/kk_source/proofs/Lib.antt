pub mod Bindings
pub mod Builder
mod Examples
pub mod RunInvariants
pub mod Laws
pub mod ListType
pub mod Live
pub mod Matching
pub mod ResourceBounds
pub mod Operators
pub mod RoomMonotonicity
pub mod TypeSafety
pub mod SafeRuns
pub mod Settings
pub mod StateSoundness
pub mod InputDependence
mod TypedExamples
pub mod Values
pub mod WithoutLimits
