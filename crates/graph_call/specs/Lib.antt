pub mod Lent
pub mod Rules
pub mod Outcome
pub mod Clear
pub mod Fill
pub mod Made
pub mod Graph
