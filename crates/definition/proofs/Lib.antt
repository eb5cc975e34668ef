-- Computed from the definitions: Cases (the twelve of 01), Borders (the open points), LimitBorders (each limit at its borders), Texts (the program `paths` on
-- case 6), EnoughCases (runs within the formula of 02 m), MomentCases (how many wait at each moment, 02 e); Examples has the inputs and the way a table asks about them.
pub mod Examples
pub mod Cases
pub mod Borders
pub mod LimitBorders
pub mod Texts
pub mod EnoughCases
pub mod MomentCases
