-- The graph in two flat tables, and what holds between them.
--   vertices, 12 numbers each: 0 to 7 the out-edge (its number plus 1, 0 for none) whose target ends in a base of that code; 8 the place of the kmer
--     in the text; 9 how many edges enter; 10 one of those (plus 1); 11 not used here.
--   edges in the order of birth, 6 numbers each: from, to, support, mark (0 or not), origin's sequence, origin's place.
-- The text is the reference with the read bases after it. Assumes nothing.
use Rattle.std.specs.Prelude.{◌≡◌, refl, Bool, true, false, not, ◌&&◌, ◌||◌, List, [], ◌∷◌, ℕ, ◌+◌, ◌-◌, ◌/◌, ◌%◌, ◌<◌, ◌≤◌, length, get_or, take, drop}
use Rattle.std.proofs.Math.Path.{sym}
use Rattle.std.proofs.Common.{ap, ◌∙◌, arith, eqb-true, eq-eqb}
use Rattle.std.proofs.Math.Option.{none, some}
use Rattle.std.proofs.Math.Dec.{eqb}
use Rattle.laws.specs.Lists.{find}
use Rattle.definition.specs.Limits.{is_base}
use Rattle.definition.specs.Threading.{Ends, Edge, Graph, leaving, entering, last_base, follow}
use Rattle.laws.specs.Rows.{rows}
use Rattle.assembly.specs.Fields.{out_edge, kmer_place, incoming_count, incoming_edge, edge_from, edge_to, edge_support, edge_mark, edge_sequence, edge_place}
use Rattle.assembly.specs.Table.{table, Distinct, find-keep, find-table-none, find-table-some, count, length-keep}

unfoldable pub code : ℕ → ℕ
code b = b / 2 % 8

pub code_lt : (b : ℕ) → code b < 8
unfolding code
code_lt b = omega arith

-- ---- what the tables say
abbrev pub edge_at : List ℕ → ℕ → Edge
edge_at es i =
    record {
      ends = record { from = edge_from es i; to = edge_to es i };
      support = edge_support es i;
      is_ref = not (eqb (edge_mark es i) 0);
      origin = record { sequence = edge_sequence es i; place = edge_place es i };
    }

abbrev pub kmer_at : ℕ → List ℕ → List ℕ → ℕ → List ℕ
kmer_at k text vs v = take k (drop (kmer_place vs v) text)

unfoldable pub edges_of : List ℕ → ℕ → List Edge
edges_of es m = table (edge_at es) m

unfoldable pub kmers_of : ℕ → List ℕ → List ℕ → ℕ → List (List ℕ)
kmers_of k text vs n = rows (kmer_at k text vs) n

unfoldable pub graph_of : ℕ → List ℕ → List ℕ → ℕ → List ℕ → ℕ → Graph
graph_of k text vs n es m = record { kmers = kmers_of k text vs n; edges = edges_of es m }

-- the last base of vertex v, as the definition has it
abbrev pub last_of : ℕ → List ℕ → List ℕ → ℕ → ℕ → ℕ
last_of k text vs n v = last_base (kmers_of k text vs n) v

-- ---- what holds of them
pub record Good (k : ℕ) (text : List ℕ) (vs : List ℕ) (n : ℕ) (es : List ℕ) (m : ℕ) : Type 0 where
  pub from_in : (i : ℕ) → i < m → edge_from es i < n
  pub to_in : (i : ℕ) → i < m → edge_to es i < n
  -- every edge stands in its source's slot, and a slot holds nothing else
  pub slot : (i : ℕ) → i < m → out_edge vs (edge_from es i) (code (last_of k text vs n (edge_to es i))) ≡ i + 1
  pub full : (v c : ℕ) → v < n → c < 8 → 0 < out_edge vs v c → (out_edge vs v c ≤ m) × (edge_from es (out_edge vs v c - 1) ≡ v) × (code (last_of k text vs n (edge_to es (out_edge vs v c - 1))) ≡ c)
  pub base : (v : ℕ) → v < n → is_base (last_of k text vs n v) ≡ true
  pub fits : (v : ℕ) → v < n → kmer_place vs v + k ≤ length text
  pub ins : (v : ℕ) → v < n → incoming_count vs v ≡ count (λ d. eqb d.to v) (edge_at es) m
  pub into : (v : ℕ) → v < n → 0 < incoming_count vs v → (0 < incoming_edge vs v) × (incoming_edge vs v ≤ m) × (edge_to es (incoming_edge vs v - 1) ≡ v)
  -- what is not used yet is zero
  pub zeros : (v c : ℕ) → n ≤ v → c < 12 → out_edge vs v c ≡ 0

-- ---- two bases of one code are one base
pub or_else : {C : Type 0} (a b : Bool) → (a || b) ≡ true → (a ≡ true → C) → (b ≡ true → C) → C
or_else true b h f g = f refl
or_else false b h f g = g h

unfoldable uncode : ℕ → ℕ
uncode c = get_or (65 ∷ 67 ∷ 84 ∷ 71 ∷ 0 ∷ 0 ∷ 0 ∷ 78 ∷ []) c 0

code-back : (b : ℕ) → is_base b ≡ true → uncode (code b) ≡ b
unfolding is_base uncode code
code-back b h =
    or_else (eqb b 65 || eqb b 67 || eqb b 71 || eqb b 84) (eqb b 78) h (λ h1.
    or_else (eqb b 65 || eqb b 67 || eqb b 71) (eqb b 84) h1 (λ h2.
    or_else (eqb b 65 || eqb b 67) (eqb b 71) h2 (λ h3.
    or_else (eqb b 65) (eqb b 67) h3 (λ e. rw (eqb-true b 65 e)) (λ e. rw (eqb-true b 67 e)))
    (λ e. rw (eqb-true b 71 e))) (λ e. rw (eqb-true b 84 e))) (λ e. rw (eqb-true b 78 e))

pub code_one : (a b : ℕ) → is_base a ≡ true → is_base b ≡ true → code a ≡ code b → a ≡ b
code_one a b h k e = sym (code-back a h) ∙ ap uncode e ∙ code-back b k

-- ---- what follows
module _ {k : ℕ} {text vs : List ℕ} {n : ℕ} {es : List ℕ} {m : ℕ} (g : Good k text vs n es m) where
  -- one edge a slot, so no two edges have the same ends
  pub good-distinct : Distinct (edge_at es) m
  good-distinct i j h k' e =
      let a = g.slot i h in
      let b = g.slot j k' in
      let p : edge_from es i ≡ edge_from es j = ap (λ (d : Ends). d.from) e in
      let q : edge_to es i ≡ edge_to es j = ap (λ (d : Ends). d.to) e in
      let r : i + 1 ≡ j + 1 = sym a ∙ ap (λ (x : ℕ). out_edge vs x (code (last_of k text vs n (edge_to es i)))) p ∙ ap (λ (x : ℕ). out_edge vs (edge_from es j) (code (last_of k text vs n x))) q ∙ b in
      omega arith

  -- the edges that leave v to a target that ends in b
  abbrev to-base : ℕ → ℕ → Ends → Bool
  to-base v b d = eqb d.from v && eqb (last_of k text vs n d.to) b

  to-base-is : (v b : ℕ) (d : Ends) → d.from ≡ v → last_of k text vs n d.to ≡ b → to-base v b d ≡ true
  to-base-is v b d p q = rw (eq-eqb d.from v p, eq-eqb (last_of k text vs n d.to) b q)

  is-to-base : (v b : ℕ) (d : Ends) → to-base v b d ≡ true → (d.from ≡ v) × (last_of k text vs n d.to ≡ b)
  is-to-base v b d h = go (eqb d.from v) refl h
    where
      go : (t : Bool) → eqb d.from v ≡ t → (t && eqb (last_of k text vs n d.to) b) ≡ true → (d.from ≡ v) × (last_of k text vs n d.to ≡ b)
      go true e q = (eqb-true d.from v e, eqb-true (last_of k text vs n d.to) b q)
      go false e q = absurd (let y : ◌≡◌ {A = ℕ} 0 1 = cc in omega arith)

  -- an edge that leaves v to a target that ends in b has its number in v's slot for b
  in-slot : (v b i : ℕ) → i < m → to-base v b (edge_at es i).ends ≡ true → out_edge vs v (code b) ≡ i + 1
  in-slot v b i h e =
      let w = is-to-base v b (edge_at es i).ends e in
      sym (ap (λ (x : ℕ). out_edge vs x (code b)) w.0) ∙ sym (ap (λ (x : ℕ). out_edge vs (edge_from es i) (code x)) w.1) ∙ g.slot i h

  follow-as : (v b : ℕ) → follow (graph_of k text vs n es m) v b ≡ find (λ e. to-base v b e.ends) (table (edge_at es) m)
  unfolding follow leaving graph_of edges_of
  follow-as v b = find-keep (λ e. eqb e.ends.from v) (λ e. eqb (last_of k text vs n e.ends.to) b) (table (edge_at es) m)

  pub follow-none : (v b : ℕ) → out_edge vs v (code b) ≡ 0 → follow (graph_of k text vs n es m) v b ≡ none
  follow-none v b z = follow-as v b ∙ find-table-none (to-base v b) (edge_at es) m (λ j h. no-j j h (to-base v b (edge_at es j).ends) refl)
    where
      no-j : (j : ℕ) → j < m → (t : Bool) → to-base v b (edge_at es j).ends ≡ t → t ≡ false
      no-j j h true e = absurd (let y = in-slot v b j h e in omega arith)
      no-j j h false e = refl

  pub follow-some : (v b : ℕ) → v < n → is_base b ≡ true → 0 < out_edge vs v (code b)
      → follow (graph_of k text vs n es m) v b ≡ some (edge_at es (out_edge vs v (code b) - 1))
  follow-some v b h i z =
      let w = g.full v (code b) h (code_lt b) z in
      let s = out_edge vs v (code b) - 1 in
      let l : s < m = (let y = w.0 in omega arith) in
      let q = code_one (last_of k text vs n (edge_to es s)) b (g.base (edge_to es s) (g.to_in s l)) i w.2 in
      follow-as v b
      ∙ find-table-some (to-base v b) (edge_at es) m s l (to-base-is v b (edge_at es s).ends w.1 q)
      (λ j k' e. (let y = in-slot v b j k' e in omega arith))

  -- ---- predecessors

  pub in-degree : (v : ℕ) → v < n → length (entering (edges_of es m) v) ≡ incoming_count vs v
  unfolding entering edges_of
  in-degree v h = length-keep (λ d. eqb d.to v) (edge_at es) m good-distinct ∙ sym (g.ins v h)
