-- Theorems over the definition, by layer.
-- Threading: Kmers, Spelling, Maximal, Stretches, Tables, Visits, First, Degrees, Sizes, Supports. Trees: Trees, Counts.
-- Search: Order, Column, Penalty, Runs, Walks, Turns, Along (what holds along a run), TurnParts (a turn taken apart), Waiting, Forks, Bounds, Mark (the waiting mark), Allowance.
-- An answer: Refuses (which numbers come after the checks), Late (the workspace after a refusal). An accepted list: Found, Fewer (fewer paths asked), Origins, Checks, Fuel, Demand (demand 3), Rows (the order is total), Twice (no path is listed twice).
pub mod Runs
pub mod Order
pub mod Column
pub mod Walks
pub mod Turns
pub mod Waiting
pub mod Along
pub mod Kmers
pub mod Spelling
pub mod Maximal
pub mod Stretches
pub mod Tables
pub mod Visits
pub mod Sizes
pub mod Supports
pub mod Trees
pub mod Counts
pub mod Penalty
pub mod Found
pub mod Fewer
pub mod Origins
pub mod Bounds
pub mod Mark
pub mod Allowance
pub mod Checks
pub mod Late
pub mod Fuel
pub mod Demand
pub mod First
pub mod Degrees
pub mod Forks
pub mod Rows
pub mod Twice
pub mod TurnParts
pub mod Refuses
