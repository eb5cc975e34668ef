pub mod Penalties
pub mod Columns
