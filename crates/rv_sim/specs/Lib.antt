pub mod Registers
pub mod Areas
pub mod Simulation
pub mod Devices
pub mod Turns
