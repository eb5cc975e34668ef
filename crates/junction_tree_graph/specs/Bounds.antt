-- Every edge of a threaded graph joins two of its vertices, so the symbolic edge, to the number after the last, is one edge more. Assumes nothing.
use Rattle.std.specs.Prelude.{◌≡◌, refl, Bool, true, false, List, [], ◌∷◌, ℕ, suc, ◌-◌, ◌<◌, ◌≤◌, eqb, length}
use Rattle.std.proofs.Common.{ap, arith}
use Rattle.std.proofs.Math.Option.{Option, none, some}
use Rattle.laws.specs.Lists.{last_or}
use Rattle.laws.specs.ListLaws.{All, nil, cons, all-mono, all_keep, all-find}
use Rattle.definition.specs.Limits.{Sample}
use Rattle.definition.specs.Stretch.{Stretch, kmers, stretches}
use Rattle.definition.specs.Threading.{Ends, Origin, Edge, Graph, Threading, leaving, last_base, one_step, number_of, with_kmer, follow, step_to, step, steps, start_at, thread_kmers, thread, thread_all, threaded, symbolic_of, with_symbolic}
use Rattle.assembly.specs.Puts.{Absent, length-put}
use Rattle.assembly.specs.Kmers.{with-grows}
use Rattle.junction_tree_graph.specs.Spelling.{with-has, all-put, all-backward}

abbrev Within : ℕ → Ends → Type 0
Within n d = (d.from < n) × (d.to < n)

abbrev pub Inside : Graph → Type 0
Inside g = All (λ (e : Edge). Within (length g.kmers) e.ends) g.edges

pub record InsideAt (t : Threading) : Type 0 where
  pub graph : Inside t.graph
  pub here : t.here < length t.graph.kmers

wider : {n m : ℕ} {es : List Edge} → n ≤ m → All (λ (e : Edge). Within n e.ends) es → All (λ (e : Edge). Within m e.ends) es
wider h a = all-mono (λ e w. ((let p = w.0 in omega arith), (let p = w.1 in omega arith))) a

start-inside : (k : ℕ) (x : List ℕ) (g : Graph) → Inside g → InsideAt (start_at k x g)
unfolding start_at
start-inside k x g a =
    record {
      graph = all-backward (Within (length (with_kmer g.kmers x))) (k - 1) (number_of g.kmers x) g.edges (wider (with-grows g.kmers x) a);
      here = (with-has g.kmers x).0;
    }

step-inside : (ref : Bool) (o : Origin) (x : List ℕ) (t : Threading) → InsideAt t → InsideAt (step ref o x t)
unfolding step step_to one_step follow leaving
step-inside ref o x t a = go (follow t.graph t.here (last_or 0 x)) refl
  where
    go : (f : Option Edge) → follow t.graph t.here (last_or 0 x) ≡ f → InsideAt (step ref o x t)
    go (some e) c =
        let w = all-find (λ (d : Edge). eqb (last_base t.graph.kmers d.ends.to) (last_or 0 x)) (all_keep (λ (d : Edge). eqb d.ends.from t.here) a.graph) c in
        rw (c, step)
        (record {
          graph = all-put (Within (length t.graph.kmers)) (one_step ref o (record { from = t.here; to = e.ends.to })) t.graph.edges (a.here, w.0.1) a.graph;
          here = w.0.1;
        })
    go none c =
        let b = (with-has t.graph.kmers x).0 in
        let l = with-grows t.graph.kmers x in
        let h = a.here in
        rw (c, step)
        (record {
          graph =
              all-put (Within (length (with_kmer t.graph.kmers x))) (one_step ref o (record { from = t.here; to = number_of t.graph.kmers x })) t.graph.edges ((omega arith), b)
              (wider (with-grows t.graph.kmers x) a.graph);
          here = b;
        })

steps-inside : (ref : Bool) (sq i : ℕ) (xs : List (List ℕ)) (t : Threading) → InsideAt t → InsideAt (steps ref sq i xs t)
unfolding steps
steps-inside ref sq i [] t a = a
steps-inside ref sq i (x ∷ xs) t a = steps-inside ref sq (suc i) xs (step ref (record { sequence = sq; place = i }) x t) (step-inside ref (record { sequence = sq; place = i }) x t a)

kmers-inside : (ref : Bool) (k : ℕ) (r : Stretch) (xs : List (List ℕ)) (g : Graph) → Inside g → Inside (thread_kmers ref k r xs g)
unfolding thread_kmers
kmers-inside ref k r [] g a = a
kmers-inside ref k r (x ∷ xs) g a = (steps-inside ref r.sequence r.place xs (start_at k x g) (start-inside k x g a)).graph

thread-inside : (ref : Bool) (k : ℕ) (r : Stretch) (g : Graph) → Inside g → Inside (thread ref k r g)
unfolding thread
thread-inside ref k r g a = kmers-inside ref k r (kmers k r.bytes) g a

all-inside : (k : ℕ) (rs : List Stretch) (g : Graph) → Inside g → Inside (thread_all k rs g)
unfolding thread_all
all-inside k [] g a = a
all-inside k (r ∷ rs) g a = all-inside k rs (thread false k r g) (thread-inside false k r g a)

pub threaded-inside : (s : Sample) → Inside (threaded s)
unfolding threaded
threaded-inside s =
    all-inside s.k (stretches s) (thread true s.k (record { sequence = 0; place = 0; bytes = s.reference }) (record { kmers = []; edges = [] }))
    (thread-inside true s.k (record { sequence = 0; place = 0; bytes = s.reference }) (record { kmers = []; edges = [] }) nil)

absent-beyond : (n v : ℕ) (es : List Edge) → All (λ (e : Edge). Within n e.ends) es → Absent (record { from = v; to = n }) es
absent-beyond n v [] a = tt
absent-beyond n v (e ∷ es) (cons w a) = ((λ z. (let y : e.ends.to ≡ n = ap (λ (d : Ends). d.to) z in let u = w.1 in omega arith)), absent-beyond n v es a)

-- the symbolic edge counts
pub length-symbolic : (s : Sample) (g : Graph) → Inside g → length (with_symbolic s g) ≡ suc (length g.edges)
unfolding with_symbolic symbolic_of
length-symbolic s g a = length-put _ g.edges (absent-beyond (length g.kmers) _ g.edges a)
