pub mod Bounds
pub mod Workspaces
pub mod Lengths
