pub mod Made
pub mod One
pub mod Offer
pub mod Each
pub mod Alone
pub mod Vertex
