pub mod Offers
pub mod Tables
pub mod Exact
pub mod Ground
