-- What the call for the list is handed. Assumes nothing.
use Rattle.std.specs.Prelude.{List, ℕ, Float}
use Rattle.definition.specs.Limits.{Input}
use Rattle.limits.specs.Handed.{graph_maxima_of, search_maxima_of, sample_of, input_of}
use Rattle.limits.specs.declared.Maxima.{Maxima}
use Rattle.list_interface.specs.declared.Settings.{Settings}
use Rattle.list_interface.specs.declared.Input as code

-- how many paths are asked, and the maxima
abbrev pub maxima_of : Settings → Maxima
maxima_of a = record { asked = a.asked; graph = a.graph; search = a.search }

-- what the call is handed, as the definition has it
abbrev pub input_for : Settings → List ℕ → List ℕ → List ℕ → List ℕ → List Float → Input
input_for a reference ends bases qualities column =
    input_of (sample_of a.k a.quality reference ends bases qualities) a.asked a.threshold a.recovery (graph_maxima_of a.graph) (search_maxima_of a.search) column

abbrev pub handed : code.Input → Input
handed i = input_for i.settings i.text.reference.now i.ends.now i.text.bases.now i.qualities.now i.column.now
