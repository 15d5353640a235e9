mod Examples
pub mod Operands
pub mod ItemEquality
pub mod Spelling
pub mod RoutineCalls
pub mod TextRuns
pub mod StopRuns
pub mod ByteRuns
pub mod Ranges
pub mod AddressReach
pub mod DigitLoop
pub mod IntRuns
pub mod CellRequests
pub mod TakeRuns
pub mod TokenHolds
pub mod StartRuns
pub mod DropRows
mod RoutineLines
pub mod DropStates
pub mod DropMoves
pub mod DropRuns
pub mod DropOutcome
pub mod Blocks
