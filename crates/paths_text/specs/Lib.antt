-- What is read: Moves, Gather, Sources, Entries. What is refused: Checks. What is printed of a list's rows: Rows. What the program prints, by what these
-- answered: Program.
pub mod Entries
pub mod Moves
pub mod Gather
pub mod Checks
pub mod Sources
pub mod Rows
pub mod Program
