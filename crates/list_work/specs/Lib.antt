pub mod Outcome
pub mod Works
pub mod Search
pub mod Work
