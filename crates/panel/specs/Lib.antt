pub mod Shows
pub mod Numerals
pub mod Lines
pub mod Digits
pub mod Inner
