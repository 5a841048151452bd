pub mod Cycles
pub mod Taken
pub mod Turns
