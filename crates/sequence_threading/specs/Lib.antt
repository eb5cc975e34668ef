pub mod Backs
pub mod Starts
pub mod Stretches
