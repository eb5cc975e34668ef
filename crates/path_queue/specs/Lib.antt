pub mod Scene
pub mod Push
pub mod Take
pub mod Begin
pub mod Next
pub mod Recover
pub mod Try
pub mod Enqueue
