pub mod Handed
pub mod Letters
