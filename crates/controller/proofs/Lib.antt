pub mod Checked
pub mod Rest
pub mod WellFormed
