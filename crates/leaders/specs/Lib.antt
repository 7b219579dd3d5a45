pub mod Order
pub mod Sheet
pub mod Refusal
pub mod Verdict
pub mod Rebuilt
pub mod Samples
pub mod Tree
pub mod Theorems
