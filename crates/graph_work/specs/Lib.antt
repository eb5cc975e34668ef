pub mod Clear
pub mod Raise
