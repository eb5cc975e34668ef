-- The numbers that the search goes by, read off the code's setting. Assumes nothing.
use Rattle.std.specs.Prelude.{ℕ}
use Rattle.search_state.specs.declared.Setting as code

-- how many edges, with the symbolic one, and how many tree nodes there are, and for how many nodes there is room; the sink and the far end of the symbolic
-- edge; the least total that reaches the threshold; and the caller's numbers
pub record Setting : Type 0 where
  pub edges : ℕ
  pub nodes : ℕ
  pub cap : ℕ
  pub sink : ℕ
  pub symbolic : ℕ
  pub least : ℕ
  pub most : ℕ
  pub active : ℕ
  pub pushes : ℕ
  pub asked : ℕ

abbrev pub setting_of : code.Setting → Setting
setting_of g =
    record {
      edges = g.graph.count;
      nodes = g.trees.count;
      cap = g.trees.cap;
      sink = g.sink;
      symbolic = g.symbolic;
      least = g.least;
      most = g.most;
      active = g.active;
      pushes = g.pushes;
      asked = g.asked;
    }
