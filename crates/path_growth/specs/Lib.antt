pub mod Push
pub mod Cut
pub mod Grow
pub mod Extend
pub mod Link
pub mod View
pub mod Join
pub mod Held
