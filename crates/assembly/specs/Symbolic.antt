-- The symbolic edge: one row more, from the sink to the number after the last kmer's, and the sink's slot 4 that names it. The rows before it still hold
-- the graph. Assumes nothing.
use Rattle.std.specs.Prelude.{◌≡◌, refl, true, List, ℕ, ◌+◌, ◌*◌, length}
use Rattle.std.proofs.Common.{arith, length-set}
use Rattle.laws.specs.Records.{put_field}
use Rattle.definition.specs.Threading.{Edge, put}
use Rattle.assembly.specs.Fields.{HasEdge, edge_from, edge_to}
use Rattle.assembly.specs.Table.{table_same}
use Rattle.assembly.specs.Store.{edge_at, edges_of, Good}
use Rattle.assembly.specs.Moves.{added_e, added_e-row, added_e-at, added_e-old, added-put, good-front}

abbrev pub symbolic : ℕ → ℕ → ℕ → Edge
symbolic sink n place = record { ends = record { from = sink; to = n }; support = 0; is_ref = true; origin = record { sequence = 0; place = place } }

module _ (es : List ℕ) (m sink n place : ℕ) (room : HasEdge es m) where
  abbrev es' : List ℕ
  es' = added_e es m (symbolic sink n place) 1

  pub symbolic-put : edges_of (added_e es m (symbolic sink n place) 1) (m + 1) ≡ put (symbolic sink n place) (edges_of es m)
  symbolic-put = added-put es m (symbolic sink n place) 1 room refl

  pub symbolic-front : edges_of (added_e es m (symbolic sink n place) 1) m ≡ edges_of es m
  unfolding edges_of
  symbolic-front = table_same (edge_at es) (edge_at es') m (λ j h. added_e-old es m (symbolic sink n place) 1 j (omega arith))

  pub symbolic-from : edge_from (added_e es m (symbolic sink n place) 1) m ≡ sink
  symbolic-from = added_e-at es m (symbolic sink n place) 1 room 0 (omega arith)

  pub symbolic-to : edge_to (added_e es m (symbolic sink n place) 1) m ≡ n
  symbolic-to = added_e-at es m (symbolic sink n place) 1 room 1 (omega arith)

  pub symbolic-good : {k : ℕ} {text vs : List ℕ} → Good k text vs n es m → Good k text vs n (added_e es m (symbolic sink n place) 1) m
  symbolic-good g =
      good-front (λ j h. added_e-row es m (symbolic sink n place) 1 j 0 (omega arith) (omega arith)) (λ j h. added_e-row es m (symbolic sink n place) 1 j 1 (omega arith) (omega arith)) g

-- the sink's slot 4 names edge m
unfoldable pub linked : List ℕ → ℕ → ℕ → List ℕ
linked vs sink m = put_field vs 12 sink 4 (m + 1)

pub length-linked : (vs : List ℕ) (sink m : ℕ) → length (linked vs sink m) ≡ length vs
unfolding linked
length-linked vs sink m = length-set vs (sink * 12 + 4) (m + 1)
