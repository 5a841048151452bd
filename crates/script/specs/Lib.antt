pub mod Lent
pub mod Lines
pub mod Operations
pub mod Rows
