pub mod Prelude
pub mod Constants
pub mod Bytes
pub mod Memory
pub mod Dma
pub mod Timing
