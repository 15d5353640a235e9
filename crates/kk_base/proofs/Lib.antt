pub mod Agreements
pub mod Counters
mod Examples
pub mod Lists
pub mod Machines
pub mod Simulations
pub mod Traces
