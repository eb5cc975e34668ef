pub mod Runs
pub mod Scan
pub mod Ahead
pub mod Usable
pub mod Turns
