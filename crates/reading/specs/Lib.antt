pub mod Climbing
pub mod Place
pub mod Reading
pub mod Leads
pub mod Faults
pub mod Lots
