-- The edge e is tried: the best closed path through its vertex, and what is made of it.
use Rattle.std.specs.Prelude.{◌≡◌, refl, ◌⊎◌, Result, Ok, Option, Some, None, Bool, true, false, List, [], map, ℕ, ◌+◌, ◌<◌, ◌≤◌, eqb, length, get_or, take, Float}
use Rattle.std.proofs.Common.{sym, ap, subst, ◌∙◌, arith, get_or-take, length-take-le}
use Rattle.std.proofs.Math.Option.{none, some}
use Rattle.std.proofs.Math.Option as math
use Rattle.std.specs.Float.Ieee.{is_nan}
use Rattle.laws.specs.Lists.{any, keep}
use Rattle.laws.specs.ListLaws.{All, nil, cons, all_keep, all_map}
use Rattle.definition.specs.Score.{Scoring, column_scoring}
use Rattle.definition.specs.Search.{SearchInput, Closed, greatest, vertices_from}
use Rattle.assembly.specs.Fields.{HasEdge, edge_from}
use Rattle.path_store.specs.Cells.{count_of, score_of, Inside}
use Rattle.path_edges.specs.Path.{Table, table-front}
use Rattle.path_growth.specs.Link.{Agrees}
use Rattle.closed_paths.specs.Best.{best_of, ClosedIn, closed-front, closed_at, found_at, best-greatest}
use Rattle.closed_paths.specs.Recover.{all-at}
use Rattle.search_state.specs.Settings.{Setting}
use Rattle.search_state.specs.declared.Progress.{Progress}
use Rattle.search_state.specs.Ground.{name_of}
use Rattle.refusals.specs.declared.Refusal.{Refusal}
use Rattle.path_queue.specs.Recover.{Leaves, Lost, Left}

pub record TriesEdge (es index targets t : List ℕ) (sc : List Float) (closed walks : List ℕ) (g : Setting) (p : Progress) (e : ℕ) : Type 0 where
  pub f : SearchInput
  pub agrees : Agrees f index targets (name_of es)
  pub source : f.source ≡ 0
  pub table : Table index targets t sc p.records
  pub closed-known : All (λ r. r < p.records) (take p.closed closed)
  pub closed-room : p.closed ≤ length closed
  pub numbers : (r : ℕ) → r < p.records → is_nan (score_of sc r) ≡ false
  pub short : (r : ℕ) → r < p.records → count_of t r ≤ g.most
  pub walk-room : g.most ≤ length walks
  pub most-fits : g.most ≤ 4096
  pub room : Inside t sc p.records
  pub fits : p.records + 1 < 4294967296
  pub edge : e < length targets
  pub row : HasEdge es e

-- the best closed path through the vertex that e leaves
abbrev pub best_for : List ℕ → List ℕ → List ℕ → List ℕ → List Float → List ℕ → Progress → ℕ → Option ℕ
best_for es index targets t sc closed p e = best_of index targets 0 t sc (edge_from es e) (take p.closed closed)

-- the best closed path goes on by the edge, if it can
pub record GoesOn (es index targets t : List ℕ) (sc : List Float) (closed : List ℕ) (g : Setting) (p : Progress) (e : ℕ) (t' : List ℕ) (sc' : List Float) (r : Result Progress Refusal) : Type 0 where
  pub path : ℕ
  pub best : best_for es index targets t sc closed p e ≡ Some path
  pub left : Left index targets t sc g p path (edge_from es e) e t' sc' r

abbrev pub EdgeTried : List ℕ → List ℕ → List ℕ → List ℕ → List Float → List ℕ → Setting → Progress → ℕ → List ℕ → List Float → Result Progress Refusal → Type 0
EdgeTried es index targets t sc closed g p e t' sc' r =
    ((best_for es index targets t sc closed p e ≡ None) × (r ≡ Ok p) × Lost t sc p t' sc' p)
    ⊎ GoesOn es index targets t sc closed g p e t' sc' r

-- what holds of all closed paths holds of the greatest
all-greatest : (𝓢 : Scoring Float) {P : Closed Float → Type 0} {cs : List (Closed Float)} (b : Closed Float) → All P cs → greatest 𝓢 cs ≡ some b → P b
unfolding greatest
all-greatest 𝓢 b nil t = let z : ◌≡◌ {A = ℕ} 0 1 = cc in absurd (omega arith)
all-greatest 𝓢 {P} b (cons {x = c} {xs = cs} p ps) t = go (greatest 𝓢 cs) refl (λ d. all-greatest 𝓢 d ps)
  where
    go : (o : math.Option (Closed Float)) → greatest 𝓢 cs ≡ o → ((d : Closed Float) → greatest 𝓢 cs ≡ some d → P d) → P b
    go none e ih = let h : some c ≡ some b = rw (e, greatest) at t in let same : c ≡ b = cc in subst P same p
    go (some d) e ih = pick (𝓢.less d.score c.score) refl
      where
        pick : (z : Bool) → 𝓢.less d.score c.score ≡ z → P b
        pick true u = let h : some c ≡ some b = rw (e, greatest, u) at t in let same : c ≡ b = cc in subst P same p
        pick false u = let h : some d ≡ some b = rw (e, greatest, u) at t in let same : d ≡ b = cc in subst P same (ih d e)

module _ {es index targets t : List ℕ} {sc : List Float} {closed walks : List ℕ} {g : Setting} {p : Progress} {e : ℕ} (T : TriesEdge es index targets t sc closed walks g p e) where
  closed-low : (i : ℕ) → i < p.closed → get_or closed i 0 < p.records
  closed-low i h =
      let a = all-at (λ r. r < p.records) (take p.closed closed) T.closed-known i (omega (arith, length-take-le p.closed closed T.closed-room)) in
      omega (arith, get_or-take p.closed closed i 0 h)

  pub try-closed : (v : ℕ) → ClosedIn index targets 0 t sc v (take p.closed closed)
  try-closed v =
      closed-front index targets 0 t sc v closed p.closed T.closed-room
      (λ i h. table-front index targets t sc p.records (get_or closed i 0 + 1) T.table (omega (arith, closed-low i h)))
      (λ i h. T.numbers (get_or closed i 0) (closed-low i h))

  -- the best closed path is one of the records: by the definition's greatest, where each closed path's number is its record's
  pub best-at : (b : ℕ) → best_for es index targets t sc closed p e ≡ Some b → b < p.records
  best-at b h =
      let v = edge_from es e in
      let cs = take p.closed closed in
      let at = closed_at T.f (name_of es) index targets T.agrees [] (λ r. r) t sc v in
      let j : best_of index targets T.f.source t sc v cs ≡ Some b = rw T.source h in
      let k : greatest (column_scoring []) (keep (λ c. any (eqb v) (vertices_from T.f.source c.edges)) (map at cs)) ≡ some (at b) =
      best-greatest T.f (name_of es) index targets T.agrees [] (λ r. r) t sc v cs
      ∙ ap (λ x. found_at T.f (name_of es) index targets T.agrees [] (λ r. r) t sc v x) j
      in
      all-greatest (column_scoring []) {P = λ c. c.closing < p.records} (at b)
      (all_keep (λ c. any (eqb v) (vertices_from T.f.source c.edges)) (all_map at (λ r l. l) T.closed-known)) k

  module _ (v : ℕ) (best : Option ℕ) (v-is : v ≡ edge_from es e) (B : best ≡ best_of index targets 0 t sc v (take p.closed closed)) where
    best-is : best ≡ best_for es index targets t sc closed p e
    best-is = B ∙ ap (λ x. best_of index targets 0 t sc x (take p.closed closed)) v-is

    module _ (b : ℕ) (h : best ≡ Some b) where
      low : b < p.records
      low = best-at b (sym best-is ∙ h)

      pub try-leaves : Leaves index targets t sc walks g p b e
      try-leaves =
          record {
            table = T.table;
            known = low;
            short = T.short b low;
            walk-room = T.walk-room;
            most-fits = T.most-fits;
            room = T.room;
            fits = T.fits;
            edge = T.edge;
          }
