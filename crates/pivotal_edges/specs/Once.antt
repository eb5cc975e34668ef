-- The edges stand in rising order of their ends, so no ends stand twice: what a caller needs to know that no edge is pivotal twice. Assumes nothing.
use Rattle.std.specs.Prelude.{◌≡◌, false, List, [], ◌∷◌, ℕ}
use Rattle.std.proofs.Common.{sym, inl, inr, arith, eq-eqb, ne_eqb}
use Prim.Native.Nat.{Ordering}
use Rattle.laws.specs.ListLaws.{All, nil, cons}
use Rattle.definition.specs.Threading.{Ends, Edge, eq_ends, compare_ends}
use Rattle.definition.specs.Search.{ends_of}
use Rattle.theorems.proofs.Tables.{Once}
use Rattle.assembly.specs.Ends.{Below, is_below}
use Rattle.assembly.specs.Table.{table}
use Rattle.assembly.specs.Store.{edge_at, edges_of}
use Rattle.out_edges.specs.Outs.{Rising, rising-table}

-- every edge is above these ends
abbrev Above : Ends → List Edge → Type 0
Above d [] = Unit {0}
Above d (x ∷ xs) = (compare_ends d x.ends ≡ Ordering.lt) × Above d xs

apart : (a b : Ends) → Below a b → eq_ends b a ≡ false
apart a b (inl h) = rw (ne_eqb b.from a.from (λ e. (omega arith)))
apart a b (inr h) = rw (eq-eqb b.from a.from (sym h.0), ne_eqb b.to a.to (λ e. (let z = h.1 in omega arith)))

above_apart : (d : Ends) (es : List Edge) → Above d es → All (λ (y : Ends). eq_ends y d ≡ false) (ends_of es)
unfolding ends_of
above_apart d [] a = nil
above_apart d (x ∷ es) a = cons {x = x.ends} (apart d x.ends (is_below d x.ends a.0)) (above_apart d es a.1)

rising-once : (es : List Edge) → Rising es → Once (ends_of es)
unfolding ends_of
rising-once [] r = tt
rising-once (e ∷ es) r = (above_apart e.ends es r.0, rising-once es r.1)

pub edges-once : (es : List ℕ) (m : ℕ) → Once (ends_of (edges_of es m))
unfolding edges_of
edges-once es m = rising-once (table (edge_at es) m) (rising-table (edge_at es) m)
