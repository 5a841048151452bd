pub mod Apply
pub mod Registers
pub mod Said
pub mod Session
pub mod Step
