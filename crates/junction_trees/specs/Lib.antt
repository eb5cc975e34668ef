pub mod Degrees
pub mod Roots
pub mod Steps
pub mod Stretches
pub mod Reads
pub mod Trees
