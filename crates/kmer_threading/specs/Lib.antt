pub mod Steps
pub mod Indexes
