pub mod Queue
pub mod Walk
pub mod Lists
pub mod Queues
pub mod Marks
pub mod Turns
pub mod Links
pub mod Once
