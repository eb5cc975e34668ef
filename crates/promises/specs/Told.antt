-- What the call for lengths tells of the settings of the call for the list. Assumes nothing.
use Rattle.definition.specs.Limits.{Input}
use Rattle.slice_lengths.specs.declared.LengthsTold.{LengthsTold}
use Rattle.slice_lengths.specs.Lengths.{Told}

-- ---- the call for the list

-- the contract of the call for lengths, of the settings that the call for the list is given
abbrev pub ToldFor : Input → LengthsTold → Type 0
ToldFor i t = Told i.sample.k i.asked i.graph_maxima i.search_maxima t
