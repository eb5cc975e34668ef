pub mod Told
pub mod Parts
pub mod Numbers
pub mod Headers
pub mod Reads
