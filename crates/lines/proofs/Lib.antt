pub mod Bytes
pub mod Each
pub mod Examples
pub mod Named
pub mod Sides
pub mod Whole
