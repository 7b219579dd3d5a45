pub mod Parting
pub mod Reading
pub mod Asking
pub mod Decimal
