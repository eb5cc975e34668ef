-- "Search": the best paths, over any kind of score (Score). Names of the Rust, junction_kbest.rs, stand in brackets.
use Prim.Native.Nat.{ℕ, zero, suc, ◌+◌, max, compare}
use Rattle.std.specs.Prelude.{Bool, true, false, not, ◌&&◌, ◌||◌, cond, List, [], ◌∷◌, ◌++◌, map, ℤ, leb, ltb, eqb, length, take}
use Rattle.std.proofs.Math.Option.{Option, none, some}
use Rattle.laws.specs.Lists.{keep, any, find_last, drop_first, position, tally, total, sole, is_empty, is_some}
use Rattle.laws.specs.Numbers.{then, reaches, is_gt}
use Rattle.laws.specs.Insertion.{insert}
use Rattle.definition.specs.Refusal.{Result, ok, refused, and_then, each}
use Rattle.definition.specs.Score.{Scoring}
use Rattle.definition.specs.Threading.{Ends, eq_ends, compare_ends, Edge, support_of, leaving}
use Rattle.definition.specs.Evidence.{Branches, bare, branch, has_branch, Tree, tree_at}

-- What a turn looks at: the edges with the symbolic one, the trees, and the settings. The paths asked and the maximum of pushes are not among
-- them: they only say when to stop, so they are handed to `turn` beside it, and what a turn makes does not depend on them.
pub record SearchInput : Type 0 where
  pub edges : List Edge
  pub trees : List Tree
  pub source : ℕ
  pub sink : ℕ
  pub symbolic : Ends
  pub threshold : ℤ
  pub path_edges : ℕ
  pub active : ℕ

-- A path from the source: its edges in order, its score, the active trees in the order they joined, each as the branches below the node that the
-- path stands at, the vertices whose trees it has visited, and the decisions since guidance. (JtPath)
pub record Path (S : Type 0) : Type 0 where
  pub edges : List Ends
  pub score : S
  pub active : List Branches
  pub visited : List ℕ
  pub since : ℕ

-- a closed path with its closing number: "Closings are numbered from 1 as they happen."
pub record Closed (S : Type 0) : Type 0 where
  pub closing : ℕ
  pub edges : List Ends
  pub score : S

-- Waiting paths stand by falling score, equals by push; closed ones in the order of closing. `longest` is the greatest length that the waiting list has had.
pub record State (S : Type 0) : Type 0 where
  pub waiting : List (Path S)
  pub closed : List (Closed S)
  pub pivotal : List Ends
  pub pushes : ℕ
  pub longest : ℕ

-- what a turn makes, before its paths are pushed: the end, a refusal, or the state with the paths to push
pub data Made (S : Type 0) : Type 0 where
  at_end : Made S
  broken : ℕ → Made S
  made : State S → List (Path S) → Made S

-- after a turn: more to do, the end, a refusal, or a push beyond the maximum, with the paths still to be pushed
pub data Turn (S : Type 0) : Type 0 where
  more : State S → Turn S
  ended : State S → Turn S
  failed : ℕ → Turn S
  full : State S → List (Path S) → Turn S

-- ---- edges and vertices

unfoldable pub among : Ends → List Ends → Bool
among e es = any (eq_ends e) es

-- the vertices of a path of these edges from v
unfoldable pub vertices_from : ℕ → List Ends → List ℕ
vertices_from v es = v ∷ map (λ (e : Ends). e.to) es

unfoldable pub end_from : ℕ → List Ends → ℕ
end_from v [] = v
end_from v (e ∷ es) = end_from e.to es

unfoldable pub times : ℕ → List ℕ → ℕ
times v vs = tally (eqb v) vs

-- ---- branches

unfoldable pub sum_of : Branches → ℕ
sum_of bare = 0
sum_of (branch e c below next) = c + sum_of next

-- the branches below the branch of the edge e
unfoldable pub child : Ends → Branches → Branches
child e bare = bare
child e (branch f c below next) = elim (eq_ends e f) [ true ↦ below | false ↦ child e next ]

unfoldable pub offers_edge : Ends → Branches → Bool
offers_edge e bare = false
offers_edge e (branch f c below next) = eq_ends e f || offers_edge e next

-- "Every extension walks the active trees by its last edge .. so trees fall away there": one whose node has no such branch, or nothing below it.
-- (traverse_edge_for_all_trees)
unfoldable pub walk_trees : Ends → List Branches → List Branches
walk_trees e bs = keep has_branch (map (child e) bs)

-- ---- the chain of single edges from a vertex

-- the only out-edge of a vertex that has no tree and is not the sink: there the path goes on without a decision
unfoldable pub onward : SearchInput → ℕ → Option Edge
onward f v = elim (is_some (tree_at f.trees v) || eqb v f.sink) [ true ↦ none | false ↦ sole (leaving f.edges v) ]

-- It stops before an edge that it has already. Its edges differ, so as many steps as there are edges suffice (theorems: Fuel).
unfoldable pub chain_from : SearchInput → ℕ → ℕ → List Ends → List Ends
chain_from f zero v c = c
chain_from f (suc n) v c =
    elim (onward f v) [ none ↦ c | some e ↦ elim (among e.ends c) [ true ↦ c | false ↦ chain_from f n e.ends.to (c ++ e.ends ∷ []) ] ]

unfoldable pub chain : SearchInput → ℕ → List Ends
chain f v = chain_from f (length f.edges) v []

-- ---- a fork's offers, before they are made into paths: the edge, its count, the total, and whether a tree offers it

pub record Offer : Type 0 where
  pub ends : Ends
  pub count : ℕ
  pub out_of : ℕ
  pub guided : Bool

-- "A tree's branch whose edge does not leave the fork's vertex is passed over": its real branches, in edge order, are those whose edges are among the
-- out-edges `outs` and are not the symbolic edge. The total t holds the counts of all.
unfoldable pub real_branches : SearchInput → List Ends → ℕ → Branches → List Offer
real_branches f outs t bare = []
real_branches f outs t (branch e c below next) =
    let r = real_branches f outs t next in
    cond (among e outs && not (eq_ends e f.symbolic)) (record { ends = e; count = c; out_of = t; guided = true } ∷ r) r

-- "only its best real branch (ties to the larger edge)": of equal counts the later one, since they stand in edge order
unfoldable pub best : List Offer → List Offer
best [] = []
best (o ∷ os) = elim (best os) [ [] ↦ o ∷ [] | p ∷ ps ↦ cond (leb o.count p.count) (p ∷ ps) (o ∷ []) ]

-- "an edge once"
unfoldable pub unseen : List Ends → List Offer → List Offer
unseen seen os = keep (λ o. not (among o.ends seen)) os

-- "then the other edges follow in vertex order, scored by support. Edges of support 0 and reference edges of support 1 are left out there."
unfoldable pub by_support : List Edge → List Offer
by_support es =
    map (λ e. record { ends = e.ends; count = support_of e; out_of = total support_of es; guided = false })
    (keep (λ (e : Edge). not (eqb (support_of e) 0) && not (e.is_ref && eqb (support_of e) 1)) es)

-- "Active trees come in the order they joined. One whose total reaches the threshold yields only its best real branch and closes the fork; trees
-- below it yield all theirs": `seen` holds the edges offered so far. (applicable_next_edges)
unfoldable pub offers : SearchInput → List Edge → List Ends → List Branches → List Offer
offers f es seen [] = unseen seen (by_support es)
offers f es seen (b ∷ bs) =
    let real = real_branches f (map (λ (e : Edge). e.ends) es) (sum_of b) b in
    elim (reaches (sum_of b) f.threshold) [
      | true ↦ unseen seen (best real)
      | false ↦ unseen seen real ++ offers f es (seen ++ map (λ (o : Offer). o.ends) (unseen seen real)) bs
    ]

-- ---- at the sink

-- "At the sink a path closes, unless an active tree reaches the threshold and neither it nor an earlier one offers the symbolic edge."
-- (has_stopping_evidence)
unfoldable pub has_stopping_evidence : SearchInput → List Branches → Bool
has_stopping_evidence f [] = true
has_stopping_evidence f (b ∷ bs) = offers_edge f.symbolic b || not (reaches (sum_of b) f.threshold) && has_stopping_evidence f bs

-- the pivotal edges ps without those of a path, one each
unfoldable pub cross_off : List Ends → List Ends → List Ends
cross_off [] ps = ps
cross_off (e ∷ es) ps = cross_off es (drop_first (eq_ends e) ps)

module _ {S : Type 0} where
  -- ---- waiting

  -- "The waiting path of greatest score is taken; equals go to the earlier push": a path goes behind all of at least its score.
  unfoldable pub ahead : Scoring S → Path S → Path S → Bool
  ahead 𝓢 q p = not (𝓢.less q.score p.score)

  unfoldable pub wait : Scoring S → Path S → List (Path S) → List (Path S)
  wait 𝓢 p qs = insert (ahead 𝓢) p qs

  unfoldable pub push : Scoring S → Path S → State S → State S
  push 𝓢 p s =
      let w = wait 𝓢 p s.waiting in
      record { waiting = w; closed = s.closed; pivotal = s.pivotal; pushes = suc s.pushes; longest = max s.longest (length w) }

  -- as many as the maximum allows
  unfoldable pub push_all : Scoring S → ℕ → List (Path S) → State S → Turn S
  push_all 𝓢 limit [] s = more s
  push_all 𝓢 limit (p ∷ ps) s = elim (ltb s.pushes limit) [ true ↦ push_all 𝓢 limit ps (push 𝓢 p s) | false ↦ full s (p ∷ ps) ]

  -- ---- extensions

  -- The path with the chain c and the edge e more. `guided`: a tree offered e. `free`: e was the only way on, and costs no decision.
  -- More edges than the maximum is 11. (extend_with_edges)
  unfoldable pub lengthen : SearchInput → Path S → List Ends → Ends → S → Bool → Bool → Result (Path S)
  lengthen f p c e score guided free =
      let es = p.edges ++ c ++ e ∷ [] in
      let bs = walk_trees e p.active in
      elim (leb (length es) f.path_edges) [
        | true ↦ ok (record { edges = es; score = score; active = bs; visited = p.visited; since = cond (not (is_empty bs) || guided) 0 (cond free p.since (suc p.since)) })
        | false ↦ refused 11
      ]

  -- "at one extension 10 before 11"
  unfoldable pub extend : Scoring S → SearchInput → Path S → List Ends → Offer → Result (Path S)
  extend 𝓢 f p c o =
      elim (𝓢.penalty o.count o.out_of)
      [ none ↦ refused 10 | some d ↦ lengthen f p c o.ends (𝓢.plus p.score d) o.guided false ]

  -- the repeat rule: an extension is kept if it has guidance, or its last vertex stands in it once
  unfoldable pub repeat_rule : SearchInput → Path S → Bool
  repeat_rule f p = eqb p.since 0 || leb (times (end_from f.source p.edges) (vertices_from f.source p.edges)) 1

  -- The extensions of the path p beyond its chain c to v, which the out-edges es leave: "all extensions of a fork being made before any is pushed".
  -- At a single edge the repeat rule comes first. (process_vertex)
  unfoldable pub extensions : Scoring S → SearchInput → Path S → List Ends → ℕ → List Edge → Result (List (Path S))
  extensions 𝓢 f p c v [] = ok []
  extensions 𝓢 f p c v (e ∷ []) =
      elim (not (is_empty p.active) || leb (times v (vertices_from f.source p.edges)) 1)
      [ true ↦ and_then (lengthen f p c e.ends p.score false true) (λ q. ok (q ∷ [])) | false ↦ ok [] ]
  extensions 𝓢 f p c v (e ∷ d ∷ es) = and_then (each (extend 𝓢 f p c) (offers f (e ∷ d ∷ es) [] p.active)) (λ qs. ok (keep (repeat_rule f) qs))

  -- ---- a taken path

  -- The tree at v joins, unless the path has visited it or it has no branch. More active trees than the maximum is 11. (add_junction_tree)
  unfoldable pub join_tree : SearchInput → ℕ → Path S → Result (Path S)
  join_tree f v p =
      elim (tree_at f.trees v) [
        | none ↦ ok p
        | some b ↦
            elim (has_branch b && not (any (eqb v) p.visited)) [
              | false ↦ ok p
              | true ↦
                  elim (ltb (length p.active) f.active) [
                    | true ↦ ok (record { edges = p.edges; score = p.score; active = p.active ++ b ∷ []; visited = v ∷ p.visited; since = 0 })
                    | false ↦ refused 11
                  ]
            ]
      ]

  -- At the sink the path may close, with its chain c; "closed or not", its edges before the chain are no longer pivotal.
  unfoldable pub close_at : SearchInput → ℕ → Path S → List Ends → State S → Result (State S)
  close_at f v p c s =
      let es = p.edges ++ c in
      let left = cross_off p.edges s.pivotal in
      elim (eqb v f.sink) [
        | false ↦ ok s
        | true ↦
            elim (has_stopping_evidence f p.active) [
              | false ↦ ok (record { waiting = s.waiting; closed = s.closed; pivotal = left; pushes = s.pushes; longest = s.longest })
              | true ↦
                  elim (leb (length es) f.path_edges) [
                    | true ↦
                        ok
                        (record {
                          waiting = s.waiting;
                          closed = s.closed ++ record { closing = suc (length s.closed); edges = es; score = p.score } ∷ [];
                          pivotal = left;
                          pushes = s.pushes;
                          longest = s.longest;
                        })
                    | false ↦ refused 11
                  ]
            ]
      ]

  unfoldable pub made_of : State S → Result (List (Path S)) → Made S
  made_of s (refused n) = broken n
  made_of s (ok ps) = made s ps

  -- the path p, whose chain c leads to v: the tree at v joins, then the path may close, then it is extended
  unfoldable pub extend_at : Scoring S → SearchInput → Path S → List Ends → ℕ → State S → Made S
  extend_at 𝓢 f p c v s =
      elim (join_tree f v p) [
        | refused n ↦ broken n
        | ok q ↦ elim (close_at f v q c s) [ refused n ↦ broken n | ok s' ↦ made_of s' (extensions 𝓢 f q c v (leaving f.edges v)) ]
      ]

  -- "A taken path with more than 5 decisions since guidance is dropped."
  unfoldable pub take_path : Scoring S → SearchInput → Path S → State S → Made S
  take_path 𝓢 f p s =
      let u = end_from f.source p.edges in
      let c = chain f u in
      elim (ltb 5 p.since) [ true ↦ made s [] | false ↦ extend_at 𝓢 f p c (end_from u c) s ]

  -- ---- recovery

  -- "best-path ties go to the later closed"
  unfoldable pub greatest : Scoring S → List (Closed S) → Option (Closed S)
  greatest 𝓢 [] = none
  greatest 𝓢 (c ∷ cs) = elim (greatest 𝓢 cs) [ none ↦ some c | some d ↦ cond (𝓢.less d.score c.score) (some c) (some d) ]

  -- A recovered path: the edges of the best closed path through the pivotal edge's vertex, up to the first place of its last edge into that vertex,
  -- then the pivotal edge e. "A recovered path keeps the whole score of the path it was split from", and the trees of all its vertices count as
  -- visited. (enqueue_next_pivotal_edge)
  unfoldable pub recover : Scoring S → SearchInput → Ends → State S → Made S
  recover 𝓢 f e s =
      elim (greatest 𝓢 (keep (λ c. any (eqb e.from) (vertices_from f.source c.edges)) s.closed)) [
        | none ↦ made s []
        | some b ↦
            elim (find_last (λ d. eqb d.to e.from) b.edges) [
              | none ↦ made s []
              | some d ↦
                  let es = take (suc (position (eq_ends d) b.edges)) b.edges ++ e ∷ [] in
                  elim (leb (length es) f.path_edges) [
                    | false ↦ broken 11
                    | true ↦
                        made s
                        (record {
                          edges = es;
                          score = b.score;
                          active = [];
                          visited = keep (λ v. is_some (tree_at f.trees v)) (vertices_from f.source es);
                          since = 0;
                        }
                        ∷ [])
                  ]
            ]
      ]

  -- ---- turns

  -- "Waiting paths above 1,000 with nothing closed, or above 10,000 after, end the search with what is closed."
  -- A waiting path is taken; where none waits, the next pivotal edge is tried.
  unfoldable pub advance : Scoring S → SearchInput → State S → List (Path S) → List Ends → Made S
  advance 𝓢 f s [] [] = at_end
  advance 𝓢 f s [] (e ∷ es) = recover 𝓢 f e (record { waiting = []; closed = s.closed; pivotal = es; pushes = s.pushes; longest = s.longest })
  advance 𝓢 f s (p ∷ ps) es =
      elim (ltb (cond (is_empty s.closed) 1000 10000) (length s.waiting)) [
        | true ↦ at_end
        | false ↦ take_path 𝓢 f p (record { waiting = ps; closed = s.closed; pivotal = s.pivotal; pushes = s.pushes; longest = s.longest })
      ]

  unfoldable pub push_made : Scoring S → ℕ → State S → Made S → Turn S
  push_made 𝓢 limit s at_end = ended s
  push_made 𝓢 limit s (broken n) = failed n
  push_made 𝓢 limit s (made s' ps) = push_all 𝓢 limit ps s'

  -- The search stops when as many have closed as are asked for, and so at the nth closing; the path that made it is extended first.
  unfoldable pub turn : Scoring S → SearchInput → ℕ → ℕ → State S → Turn S
  turn 𝓢 f asked limit s =
      elim (leb asked (length s.closed)) [ true ↦ ended s | false ↦ push_made 𝓢 limit s (advance 𝓢 f s s.waiting s.pivotal) ]

  unfoldable pub run : Scoring S → SearchInput → ℕ → ℕ → ℕ → Turn S → Turn S
  run 𝓢 f asked limit zero t = t
  run 𝓢 f asked limit (suc n) (more s) = run 𝓢 f asked limit n (turn 𝓢 f asked limit s)
  run 𝓢 f asked limit (suc n) (ended s) = ended s
  run 𝓢 f asked limit (suc n) (failed m) = failed m
  run 𝓢 f asked limit (suc n) (full s ps) = full s ps

-- ---- pivotal edges: the edges of forks, but for reference edges of support 1, by distance from the source and then by edge
-- (create_pivotal_edges_in_topological_order)

-- an edge to visit and its distance from the source
pub record Queued : Type 0 where
  pub level : ℕ
  pub ends : Ends

-- the queue is by level, then by edge
unfoldable pub earlier : Queued → Queued → Bool
earlier r q = is_gt (then (compare q.level r.level) (compare_ends q.ends r.ends))

unfoldable pub enqueue : Queued → List Queued → List Queued
enqueue q qs = insert earlier q qs

unfoldable pub enqueue_all : ℕ → List Edge → List Queued → List Queued
enqueue_all l [] qs = qs
enqueue_all l (e ∷ es) qs = enqueue_all l es (enqueue (record { level = l; ends = e.ends }) qs)

unfoldable pub ends_of : List Edge → List Ends
ends_of es = map (λ (e : Edge). e.ends) es

-- the pivotal edges that leave the target of a queued edge: of a fork's edges `new`, those that are no reference edge of support 1
unfoldable pub pivotal_of : List Edge → List Edge → List Ends
pivotal_of out new = cond (ltb 1 (length out)) (ends_of (keep (λ (e : Edge). not (e.is_ref && eqb (support_of e) 1)) new)) []

-- Every edge is queued at most once after the source's own, so their number and that of the edges together bound the turns (theorems: Fuel).
unfoldable pub pivotal_from : List Edge → ℕ → List Queued → List Ends → List Ends
pivotal_from es zero qs visited = []
pivotal_from es (suc n) [] visited = []
pivotal_from es (suc n) (q ∷ qs) visited =
    let out = leaving es q.ends.to in
    let new = keep (λ (e : Edge). not (among e.ends visited)) out in
    pivotal_of out new ++ pivotal_from es n (enqueue_all (suc q.level) new qs) (visited ++ ends_of new)

unfoldable pub pivotal_edges : SearchInput → List Ends
pivotal_edges f =
    let first = leaving f.edges f.source in
    pivotal_from f.edges (length first + length f.edges) (enqueue_all 0 first []) []

-- ---- the search

-- "The start path is a push."
unfoldable pub first_state : {S : Type 0} → Scoring S → List Ends → State S
first_state 𝓢 pivotal =
    record {
      waiting = record { edges = []; score = 𝓢.start; active = []; visited = []; since = 0 } ∷ [];
      closed = [];
      pivotal = pivotal;
      pushes = 1;
      longest = 1;
    }

-- A turn takes a waiting path or a pivotal edge, so no more are made than there are pushes and pivotal edges, and one that ends (theorems: Fuel).
-- (find_junction_best_haplotypes)
unfoldable pub search : {S : Type 0} → Scoring S → SearchInput → ℕ → ℕ → Bool → Turn S
search 𝓢 f asked limit recovery =
    let pivotal : List Ends = elim recovery [ true ↦ pivotal_edges f | false ↦ [] ] in
    run 𝓢 f asked limit (suc (limit + length pivotal)) (more (first_state 𝓢 pivotal))

-- A key: to unfold it is to unfold every definition of this file. The worked cases compute with it; a proof names only what it needs.
unfoldable pub open_search : Unit {0}
unfolding insert among vertices_from end_from times sum_of child offers_edge walk_trees onward chain_from chain real_branches best unseen by_support offers has_stopping_evidence cross_off ahead wait push push_all lengthen extend repeat_rule extensions join_tree close_at made_of extend_at take_path greatest recover advance push_made turn run earlier enqueue enqueue_all ends_of pivotal_of pivotal_from pivotal_edges first_state search
open_search = tt
