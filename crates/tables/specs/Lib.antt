-- The widths of the workspace tables.
pub mod Widths
