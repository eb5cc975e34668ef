-- Request m of document 02. What a path may still cost: Ways (five at a fork), Weights; what a search has spent: Spent. The search with no maximum: Free (on pushes),
-- Joins (on active trees), Covered (on column places). The theorem: Suffices; of the call's answer: Answers.
pub mod Ways
pub mod Weights
pub mod Spent
pub mod Joins
pub mod Free
pub mod Covered
pub mod Suffices
pub mod Answers
