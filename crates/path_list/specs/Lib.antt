pub mod Laid
pub mod Walked
pub mod Tails
pub mod Ranks
pub mod Rows
pub mod Told
pub mod List
pub mod Ended
