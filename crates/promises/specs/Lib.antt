pub mod Reading
pub mod Demand
pub mod Exported
pub mod Told
