pub mod Prelude
pub mod Registers
pub mod StartDma
pub mod Stores
pub mod FinishDma
