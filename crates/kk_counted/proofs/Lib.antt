pub mod Examples
mod SpendingExamples
pub mod CountChanges
pub mod Heaps
pub mod HeapChanges
pub mod SlotMarks
pub mod TokenChain
pub mod CellRequests
pub mod TokenForms
pub mod FillSteps
pub mod TokenSteps
pub mod StillForms
pub mod TokenRuns
pub mod TokenAlignment
pub mod CellReuse
pub mod TokenOnlyForms
pub mod NameAssignment
pub mod NameGrowth
pub mod PoolRuns
pub mod TokenExamples
mod StuckTokens
mod RequestOrder
mod Tails
pub mod Variables
pub mod Order
pub mod Reachability
pub mod SoundSteps
pub mod SoundRuns
pub mod OwnedOpenings
pub mod SoundUses
pub mod Cost
mod EdgeNumbers
mod CountIndependence
pub mod MarkPreservation
pub mod Numbers
pub mod ListLengths
pub mod OwnedBounds
pub mod CountSteps
pub mod NarrowCounts
pub mod GainBounds
pub mod TokenStates
pub mod TokenRoom
pub mod Places
pub mod Looks
pub mod LookAgreement
pub mod Progress
pub mod Functions
pub mod Evenness
pub mod FormViews
pub mod PlaceLists
pub mod Programs
pub mod TokenedViews
pub mod FieldKnowledge
pub mod KnownSteps
pub mod KnownRuns
pub mod KeptFields
