pub mod ThreadRuns
pub mod Reads
