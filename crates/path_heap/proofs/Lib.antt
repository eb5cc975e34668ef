pub mod Laws
pub mod Link
