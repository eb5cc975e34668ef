pub mod Handed
pub mod Tests
pub mod Loops
pub mod Rules
pub mod Long
