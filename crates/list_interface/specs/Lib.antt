pub mod Handed
pub mod Answers
