pub mod Spelling
pub mod Bounds
pub mod Built
pub mod Answers
