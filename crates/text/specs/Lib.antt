pub mod Bytes
pub mod Shown
pub mod Typed
pub mod Faults
