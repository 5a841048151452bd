pub mod Beside
pub mod Clock
pub mod Commands
pub mod Files
pub mod Keys
pub mod Memory
pub mod Prompt
pub mod Registers
