pub mod Closes
pub mod Joins
pub mod ClosesTaken
