-- What was read: Columns (the column file), Checking (the text, 14 and 1 to 5), Asked (the settings of the call for the list).
pub mod Columns
pub mod Checking
pub mod Asked
