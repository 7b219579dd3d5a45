pub mod Faults
pub mod Pages
pub mod Showing
pub mod Sitting
