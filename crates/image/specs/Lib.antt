pub mod Radix
pub mod Fields
pub mod Layout
pub mod Open
pub mod Valid
pub mod Inner
pub mod InPlace
