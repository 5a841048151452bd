pub mod Cycles
pub mod Turns
