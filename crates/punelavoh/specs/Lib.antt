pub mod Records
pub mod Recorded
