pub mod Packs
pub mod Reports
pub mod Texts
