pub mod Settings
pub mod Ground
pub mod Keep
pub mod State
