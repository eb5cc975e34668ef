-- The bases of a path: the first vertex's kmer, then the last base of each vertex reached, read off the tables. Assumes nothing.
use Rattle.std.specs.Prelude.{◌≡◌, set, take}
use Rattle.std.proofs.Math.Path.{refl, sym, ap}
use Rattle.std.proofs.Common.{◌∙◌, arith, add-one, length-set, get_or-append-add, get_or-take, List, [], ◌∷◌, ◌++◌, map, ℕ, zero, suc, ◌+◌, ◌-◌, ◌^◌, ◌<◌, ◌≤◌}
use Rattle.std.proofs.Math.ListN.{length, get_or, length-append, length-map, get_or-append}
use Rattle.std.proofs.Math.Seq.{length-take-le, paste, paste-suc}
use Rattle.laws.specs.Lists.{last_or}
use Rattle.laws.specs.ListLaws.{All, cons}
use Rattle.laws.specs.Rows.{get_d_rows}
use Rattle.definition.specs.Threading.{Ends, last_base}
use Rattle.definition.specs.Listing.{path_bases}
use Rattle.assembly.specs.Fields.{HasVertex, kmer_place, HasEdge, edge_to}
use Rattle.assembly.specs.Store.{edge_at, kmer_at, kmers_of, graph_of}
use Rattle.assembly.specs.Kmers.{part, length_part, get_d_part, last-part, last-of}

-- the last base of the vertex that edge i enters
abbrev pub end_base : ℕ → List ℕ → List ℕ → List ℕ → ℕ → ℕ
end_base k text vs es i = last_or 0 (kmer_at k text vs (edge_to es i))

-- the bases of the path from vertex 0 over the edges numbered in `path`
unfoldable pub bases_of : ℕ → List ℕ → List ℕ → List ℕ → List ℕ → List ℕ
bases_of k text vs es path = kmer_at k text vs 0 ++ map (end_base k text vs es) path

-- the definition's bases, where every vertex reached is one of the n
ends-bases : (k : ℕ) (text vs es : List ℕ) (n : ℕ) (path : List ℕ) → All (λ (i : ℕ). edge_to es i < n) path
    → map (end_base k text vs es) path ≡ map (λ (e : Ends). last_base (kmers_of k text vs n) e.to) (map (λ (i : ℕ). (edge_at es i).ends) path)
ends-bases k text vs es n [] a = refl
ends-bases k text vs es n (i ∷ path) (cons h a) = rw (last-of k text vs n (edge_to es i) h, ends-bases k text vs es n path a)

pub bases-is : (k : ℕ) (text vs es : List ℕ) (n m : ℕ) (path : List ℕ) → 0 < n → All (λ (i : ℕ). edge_to es i < n) path
    → bases_of k text vs es path ≡ path_bases (graph_of k text vs n es m) (map (λ (i : ℕ). (edge_at es i).ends) path)
unfolding bases_of path_bases graph_of kmers_of
bases-is k text vs es n m path h a = rw (get_d_rows (kmer_at k text vs) n 0 [] h) (ap (λ (l : List ℕ). kmer_at k text vs 0 ++ l) (ends-bases k text vs es n path a))

-- ---- one base of it
pub record Spells (k : ℕ) (text vs es path : List ℕ) (e : ℕ) : Type 0 where
  pub some : 0 < k
  pub small : length text < 2 ^ 32
  pub long : e ≤ length path
  pub first-room : 12 ≤ length vs
  pub first_fits : kmer_place vs 0 + k ≤ length text
  pub edge-room : (j : ℕ) → j < e → HasEdge es (get_or path j 0)
  pub to_room : (j : ℕ) → j < e → HasVertex vs (edge_to es (get_or path j 0))
  pub to-fits : (j : ℕ) → j < e → kmer_place vs (edge_to es (get_or path j 0)) + k ≤ length text

-- the first e edges alone
pub spells-cut : {k : ℕ} {text vs es path : List ℕ} {e : ℕ} → Spells k text vs es path e → Spells k text vs es (take e path) (length (take e path))
spells-cut {path = path} {e = e} x =
    let n : (j : ℕ) → j < length (take e path) → j < e = (λ j h. rw (length-take-le e path x.long) at h) in
    record {
      some = x.some;
      small = x.small;
      long = omega arith;
      first-room = x.first-room;
      first_fits = x.first_fits;
      edge-room = λ j h. rw (get_or-take e path j 0 (n j h)) (x.edge-room j (n j h));
      to_room = λ j h. rw (get_or-take e path j 0 (n j h)) (x.to_room j (n j h));
      to-fits = λ j h. rw (get_or-take e path j 0 (n j h)) (x.to-fits j (n j h));
    }

module _ {k : ℕ} {text vs es path : List ℕ} {e : ℕ} (x : Spells k text vs es path e) where
  first-length : length (kmer_at k text vs 0) ≡ k
  first-length = length_part k text (kmer_place vs 0) x.first_fits

  pub bases-length : length (bases_of k text vs es (take e path)) ≡ k + e
  unfolding bases_of
  bases-length =
      length-append (kmer_at k text vs 0) (map (end_base k text vs es) (take e path))
      ∙ rw (first-length, length-map (take e path) (end_base k text vs es), length-take-le e path x.long)

module _ {k : ℕ} {text vs es path : List ℕ} (x : Spells k text vs es path (length path)) where
  all-length : length (bases_of k text vs es path) ≡ k + length path
  unfolding bases_of
  all-length = length-append (kmer_at k text vs 0) (map (end_base k text vs es) path) ∙ rw (first-length x, length-map path (end_base k text vs es))

  module _ (i : ℕ) where
    pub base-first : i < k → (p : ℕ) → p ≡ kmer_place vs 0 → get_or text (p + i) 0 ≡ get_or (bases_of k text vs es path) i 0
    unfolding bases_of
    base-first h p hp =
        rw hp
        (sym (get_or-append (kmer_at k text vs 0) (map (end_base k text vs es) path) 0 i (rw (first-length x) h) ∙ get_d_part k text (kmer_place vs 0) i h))

    module _ (l : k ≤ i) (r : i < k + length path) where
      j-in : i - k < length path
      j-in = omega arith

      module _ (j : ℕ) (hj : j ≡ get_or path (i - k) 0) (v : ℕ) (hv : v ≡ edge_to es j) where
        v-is : v ≡ edge_to es (get_or path (i - k) 0)
        v-is = rw hj at hv

        pub base-room : HasVertex vs v
        base-room = rw v-is (x.to_room (i - k) j-in)

        pub base-fits : (p : ℕ) → p ≡ kmer_place vs v → p + k ≤ length text
        base-fits p h = rw (h, v-is) (x.to-fits (i - k) j-in)

        pub base-later : (p : ℕ) → p ≡ kmer_place vs v → get_or text (p + k - 1) 0 ≡ get_or (bases_of k text vs es path) i 0
        unfolding bases_of
        base-later p h =
            let z : i ≡ length (kmer_at k text vs 0) + (i - k) = (let y = first-length x in omega arith) in
            sym (last-part k text p x.some (base-fits p h))
            ∙ ap (λ (q : ℕ). last_or 0 (part k text q)) h
            ∙ ap (λ (u : ℕ). last_or 0 (kmer_at k text vs u)) v-is
            ∙ sym (mapped path (i - k) j-in)
            ∙ sym (get_or-append-add (kmer_at k text vs 0) (map (end_base k text vs es) path) (i - k) 0)
            ∙ ap (λ (u : ℕ). get_or (kmer_at k text vs 0 ++ map (end_base k text vs es) path) u 0) (sym z)
          where
            mapped : (q : List ℕ) (c : ℕ) → c < length q → get_or (map (end_base k text vs es) q) c 0 ≡ end_base k text vs es (get_or q c 0)
            mapped [] c h = absurd (omega arith)
            mapped (a ∷ q) zero h = refl
            mapped (a ∷ q) (suc c) h = mapped q c (omega arith)

-- ---- written into `out` from place `at` on
pub record Written (bs out out' : List ℕ) (at i : ℕ) : Type 0 where
  pub within : i ≤ length bs
  pub is : out' ≡ paste out at bs i
  pub same : length out' ≡ length out

pub written_next : (bs out out' : List ℕ) (at i b : ℕ) → Written bs out out' at i → at + length bs ≤ length out → i < length bs → b ≡ get_or bs i 0 → Written bs out (set out' (at + i) b) at (i + 1)
written_next bs out out' at i b w r l h =
    record {
      within = omega arith;
      is =
          ap (λ (q : List ℕ). set q (at + i) b) w.is
          ∙ ap (λ (y : ℕ). set (paste out at bs i) (at + i) y) h
          ∙ paste-suc out at bs i 0 (omega arith) l
          ∙ ap (λ (n : ℕ). paste out at bs n) (sym (add-one i));
      same = length-set out' (at + i) b ∙ w.same;
    }

module _ {k : ℕ} {text vs es path : List ℕ} (x : Spells k text vs es path (length path)) (out : List ℕ) (at : ℕ) (room : at + (k + length path) ≤ length out) where
  pub path-next : (out' : List ℕ) (i b : ℕ) → Written (bases_of k text vs es path) out out' at i → i < k + length path → b ≡ get_or (bases_of k text vs es path) i 0
      → Written (bases_of k text vs es path) out (set out' (at + i) b) at (i + 1)
  path-next out' i b w l h =
      written_next (bases_of k text vs es path) out out' at i b w (let z = all-length x in omega arith) (let z = all-length x in omega arith) h

  pub path-end : (out' : List ℕ) (i : ℕ) → Written (bases_of k text vs es path) out out' at i → k + length path ≤ i → out' ≡ paste out at (bases_of k text vs es path) (k + length path)
  path-end out' i w l = let z : i ≡ k + length path = (let y = w.within in let u = all-length x in omega arith) in rw z at w.is
