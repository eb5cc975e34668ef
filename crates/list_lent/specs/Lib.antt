pub mod Lent
pub mod Rules
