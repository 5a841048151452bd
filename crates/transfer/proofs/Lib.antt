pub mod Bits
pub mod Pick
pub mod Sizes
pub mod Numbers
