pub mod Answered
pub mod Asked
pub mod ByNumber
pub mod Cycles
pub mod Examples
pub mod Runs
pub mod Turns
