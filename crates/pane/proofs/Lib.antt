pub mod Bytes
pub mod Copies
pub mod Examples
pub mod Numbers
pub mod Pane
pub mod Refused
pub mod Types
