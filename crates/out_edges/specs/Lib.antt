pub mod Outs
pub mod Sorted
pub mod Linked
pub mod Walked
