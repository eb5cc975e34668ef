pub mod Walk
pub mod Steps
pub mod Cells
pub mod Climbs
