-- Where a path is split, and the record that is made of its front and an edge.
use Rattle.std.specs.Prelude.{◌≡◌, refl, ◌⊎◌, Option, Some, None, Result, Ok, Err, List, ℕ, ◌+◌, ◌<◌, ◌≤◌, length, get_or, take, set, Float}
use Rattle.std.proofs.Common.{ap, ◌∙◌, inl, inr, arith}
use Rattle.std.proofs.lemmas.List.Edits.{sets}
use Rattle.laws.specs.Stores.{take-sets}
use Rattle.refusals.specs.declared.Refusal.{Refusal}
use Rattle.refusals.specs.Numbers.{number}
use Rattle.path_store.specs.Cells.{count_of, score_of, Inside, put_cells}
use Rattle.path_edges.specs.Path.{Table, edges, table-front}
use Rattle.path_growth.specs.Grow.{Growable, Grown, recovered_row}
use Rattle.path_growth.specs.Held.{grown-made, grown-refused}
use Rattle.closed_paths.specs.Split.{split_at, split_of, split-told, split-lost}
use Rattle.closed_paths.specs.Recover.{edges-in, all-at, split-low}
use Rattle.search_state.specs.Settings.{Setting}
use Rattle.search_state.specs.declared.Progress.{Progress}

-- ---- where a path is split

pub record Splits (index targets t : List ℕ) (sc : List Float) (walks : List ℕ) (path : ℕ) : Type 0 where
  pub table : Table index targets t sc (path + 1)
  pub room : count_of t path ≤ length walks

module _ {index targets t : List ℕ} {sc : List Float} {walks : List ℕ} {path : ℕ} (S : Splits index targets t sc walks path) where
  count-is : count_of t path ≡ length (edges index targets t path)
  count-is = (S.table.rows path (omega arith)).count

  module _ (n : ℕ) (walks' : List ℕ) (e : n ≡ count_of t path) (w : walks' ≡ sets walks 0 (edges index targets t path)) where
    written : take n walks' ≡ edges index targets t path
    written = rw (e, w, count-is) (take-sets walks (edges index targets t path) (omega (arith, S.room, count-is)))

    pub split-asks : (i : ℕ) → i < length (take n walks') → get_or (take n walks') i 0 < length targets
    split-asks = rw written (λ i h. all-at (λ d. d < length targets) (edges index targets t path) (edges-in index targets t sc (path + 1) S.table path (omega arith)) i h)

    pub split-is : (v : ℕ) (k : Option ℕ) → k ≡ split_of targets v (take n walks') → k ≡ split_of targets v (edges index targets t path)
    split-is v k h = h ∙ ap (λ l. split_of targets v l) written

-- ---- the path goes on by the edge e

-- the record n is free, and the edge is one of the graph's
pub record Leaves (index targets t : List ℕ) (sc : List Float) (walks : List ℕ) (g : Setting) (p : Progress) (path e : ℕ) : Type 0 where
  pub table : Table index targets t sc p.records
  pub known : path < p.records
  pub short : count_of t path ≤ g.most
  pub walk-room : g.most ≤ length walks
  pub most-fits : g.most ≤ 4096
  pub room : Inside t sc p.records
  pub fits : p.records + 1 < 4294967296
  pub edge : e < length targets

abbrev pub one_more : Progress → Progress
one_more p =
    record { records = p.records + 1; waiting = p.waiting; closed = p.closed; next = p.next; pivotal = p.pivotal; pushes = p.pushes; mark = p.mark }

abbrev pub kept : List ℕ → List ℕ → List ℕ → ℕ → ℕ → ℕ
kept index targets t path v = split_at targets v (edges index targets t path)

-- nothing is made
pub record Lost (t : List ℕ) (sc : List Float) (p : Progress) (t' : List ℕ) (sc' : List Float) (p' : Progress) : Type 0 where
  pub progress : p' ≡ p
  pub cells : t' ≡ t
  pub scores : sc' ≡ sc

-- the record is made of the first k edges
pub record Recovered (index targets t : List ℕ) (sc : List Float) (g : Setting) (p : Progress) (path k e : ℕ) (t' : List ℕ) (sc' : List Float) (p' : Progress) : Type 0 where
  pub some : 0 < k
  pub short : k + 1 ≤ g.most
  pub progress : p' ≡ one_more p
  pub cells : t' ≡ put_cells t p.records (recovered_row index t sc targets path k e)
  pub scores : sc' ≡ set sc p.records (score_of sc path)

pub record Long (g : Setting) (k n : ℕ) : Type 0 where
  pub number : n ≡ 11
  pub some : 0 < k
  pub over : g.most < k + 1

abbrev pub Left : List ℕ → List ℕ → List ℕ → List Float → Setting → Progress → ℕ → ℕ → ℕ → List ℕ → List Float → Result Progress Refusal → Type 0
Left index targets t sc g p path v e t' sc' (Ok p') =
    ((kept index targets t path v ≡ 0) × Lost t sc p t' sc' p') ⊎ Recovered index targets t sc g p path (kept index targets t path v) e t' sc' p'
Left index targets t sc g p path v e t' sc' (Err r) = Long g (kept index targets t path v) (number r)

module _ {index targets t : List ℕ} {sc : List Float} {walks : List ℕ} {g : Setting} {p : Progress} {path e : ℕ} (L : Leaves index targets t sc walks g p path e) where
  pub leave-lost : (v : ℕ) → None ≡ split_of targets v (edges index targets t path) → Left index targets t sc g p path v e t sc (Ok p)
  leave-lost v h = inl (split-lost targets v (edges index targets t path) h, record { progress = refl; cells = refl; scores = refl })

  module _ (v k : ℕ) (o : Some k ≡ split_of targets v (edges index targets t path)) where
    K : k ≡ kept index targets t path v
    K = (split-told targets v (edges index targets t path) k o).0

    h : 0 < k
    h = (split-told targets v (edges index targets t path) k o).1

    module _ where
      low : k ≤ count_of t path
      low = omega (arith, split-low targets v (edges index targets t path) k K h, (L.table.rows path L.known).count)

      pub leave_fits : k < 4294967296
      leave_fits = omega (arith, low, L.short, L.most-fits)

      pub leave-asks : (c : ℕ) → c ≡ k
          → Growable t sc p.records path × Table index targets t sc (path + 1) × (0 < c) × (c ≤ count_of t path) × (e < length targets) × (e + 1 < 4294967296)
      leave-asks c q =
          (record { room = L.room; known = L.known }, table-front index targets t sc p.records (path + 1) L.table (omega (arith, L.known)), omega (arith, h), omega (arith, low), L.edge, omega (arith, L.edge, L.table.graph.small))

      module _ (c : ℕ) (q : c ≡ k) (t' : List ℕ) (sc' : List Float) (r : Result ℕ Refusal)
          (G : Grown t sc p.records (recovered_row index t sc targets path c e) g.most r t' sc') where
        same : c ≡ kept index targets t path v
        same = q ∙ K

        pub leave-over : (a : Refusal) → r ≡ Err a → Left index targets t sc g p path v e t' sc' (Err a)
        leave-over a E =
            let R = grown-refused t sc p.records (recovered_row index t sc targets path c e) g.most t' sc' a (rw E at G) in
            record { number = R.0.number; some = omega (arith, same, h); over = omega (arith, same, R.1) }

        pub leave-made : (n : ℕ) → r ≡ Ok n → Left index targets t sc g p path v e t' sc' (Ok (one_more p))
        leave-made n E =
            let R = grown-made t sc p.records (recovered_row index t sc targets path c e) g.most t' sc' n (rw E at G) in
            inr
            (rw (← same)
            (record { some = omega (arith, h); short = R.1; progress = refl; cells = R.0.cells; scores = R.0.scores }))
