pub mod Outcome
pub mod Within
pub mod Parts
pub mod Call
