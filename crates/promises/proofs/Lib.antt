-- What is proved of the exported calls: read back (Back), accepted (Accepted), demand 3 (Demand, Fewer, Exported), the lengths told (Told), the allowance (Allowed).
pub mod Back
pub mod Accepted
pub mod Demand
pub mod Fewer
pub mod Exported
pub mod Told
pub mod Allowed
