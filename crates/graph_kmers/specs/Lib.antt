pub mod Index
pub mod Paths
