pub mod Cross
pub mod Best
pub mod Split
pub mod Recover
pub mod Close
pub mod Writing
pub mod Pivots
