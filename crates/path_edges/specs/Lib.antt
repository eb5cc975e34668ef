pub mod Path
pub mod Stop
pub mod Visit
