pub mod Histories
pub mod Priced
pub mod Whole
pub mod Returns
pub mod Roomy
