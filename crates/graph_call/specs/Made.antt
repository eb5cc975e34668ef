-- The work, and the clearing after it. Assumes nothing.
use Rattle.std.specs.Prelude.{◌≡◌, List, ℕ, length}
use Rattle.definition.specs.Limits.{Sample, GraphMaxima}
use Rattle.definition.specs.Building.{built}
use Rattle.definition.specs.Calls.{graph_of}
use Rattle.graph_work.specs.Clear.{zeros}
use Rattle.graph_call.specs.declared.GraphAnswer.{GraphAnswer}
use Rattle.graph_call.specs.Outcome.{outcome}

pub record Made (s : Sample) (m : GraphMaxima) (r : GraphAnswer) (es es' ns ns' wv wv' we we' wi wi' wx wx' wo wo' : List ℕ) : Type 0 where
  pub is : outcome r es' ns' ≡ graph_of (built s m) es ns
  pub w-vertices : wv' ≡ zeros (length wv)
  pub w-edges : we' ≡ zeros (length we)
  pub w-index : wi' ≡ zeros (length wi)
  pub w-nodes : wx' ≡ zeros (length wx)
  pub w-open : wo' ≡ zeros (length wo)
