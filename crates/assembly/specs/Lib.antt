pub mod Ends
pub mod Puts
pub mod Table
pub mod Fields
pub mod Store
pub mod Moves
pub mod Symbolic
pub mod Kmers
