pub mod FaultPlan
pub mod Plan
pub mod Sink
pub mod Source
pub mod Store
