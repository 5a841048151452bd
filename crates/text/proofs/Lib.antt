pub mod Bits
pub mod Cuts
pub mod Decimals
pub mod Examples
pub mod Numerals
pub mod Parts
pub mod Said
pub mod Same
