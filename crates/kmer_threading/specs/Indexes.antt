-- The index through the threading: it has the kmers of the vertices made so far, and room for as many as may come. Assumes nothing.
use Rattle.std.specs.Prelude.{◌≡◌, Result, Ok, Err, List, ℕ, ◌+◌, ◌-◌, ◌^◌, ◌<◌, ◌≤◌, length, get_or}
use Rattle.std.proofs.Common.{sym, ◌∙◌, arith}
use Rattle.laws.specs.Rows.{rows_none}
use Rattle.definition.specs.Threading.{number_of}
use Rattle.tables.specs.Widths.{kmer_numbers}
use Rattle.kmer_threading.specs.declared.Most.{Most}
use Rattle.kmer_threading.specs.declared.At.{At}
use Rattle.refusals.specs.declared.Refusal.{Refusal}
use Rattle.assembly.specs.Store.{kmers_of, code, code_lt}
use Rattle.assembly.specs.Moves.{added_v, kmers-added}
use Rattle.assembly.specs.Kmers.{part, born, kmers-born, length-of}
use Rattle.graph_kmers.specs.Index.{size_of, Indexed, Finding, bucket_of, bucket-lt, entered, length-entered, entered_at, index-empty}
use Rattle.kmer_threading.specs.Steps.{Gets}

pub record Indexes (k : ℕ) (text vs idx : List ℕ) (most : Most) (n : ℕ) : Type 0 where
  pub room : most.vertices < size_of idx
  pub indexed : Indexed k (kmers_of k text vs n) idx

-- so it is where a step goes on; where one is refused the index is not used again
abbrev pub Keeps : ℕ → List ℕ → List ℕ → List ℕ → Most → Result At Refusal → Type 0
Keeps k text vs idx most (Ok s) = Indexes k text vs idx most s.vertices
Keeps k text vs idx most (Err e) = Unit {0}

-- an index as it is lent: two numbers a vertex, all zero
pub record Fresh (n : ℕ) (idx : List ℕ) : Type 0 where
  pub size : length idx ≡ kmer_numbers n
  pub zero : (i : ℕ) → get_or idx i 0 ≡ 0

module _ (k : ℕ) (text vs idx : List ℕ) (most : Most) (r : Result At Refusal) where
  pub keeps-next : (t : At) → Keeps k text vs idx most r → r ≡ Ok t → Indexes k text vs idx most t.vertices
  keeps-next t h e = rw e at h

  pub keeps-stop : (n : Refusal) → r ≡ Err n → Keeps k text vs idx most r
  keeps-stop n e = rw e tt

-- ---- the vertex of a kmer
module _ {k : ℕ} {text vs idx : List ℕ} {most : Most} {s : At} {q : ℕ} (x : Gets k text vs most s q) (y : Indexes k text vs idx most s.vertices) where
  pub index-some : 0 < size_of idx
  index-some = let z = y.room in omega arith

  module _ (h : ℕ) (hh : h ≡ bucket_of k (size_of idx) (part k text q)) (l : s.vertices < most.vertices) where
    pub enter-asks : (s.vertices < size_of idx) × (h < size_of idx) × (s.vertices + 1 < 2 ^ 32)
    enter-asks = ((let z = y.room in omega arith), rw hh (bucket-lt k (size_of idx) (part k text q) index-some), (let f = x.few-v in omega arith))

    pub index-more : (w : ℕ) → w ≡ number_of (kmers_of k text vs s.vertices) (part k text q) → w ≡ s.vertices → (vs' idx' : List ℕ) → vs' ≡ born vs s.vertices q → idx' ≡ entered idx s.vertices h
        → Indexes k text vs' idx' most (s.vertices + 1)
    index-more w hw e vs' idx' d f =
        let n = length-of k text vs s.vertices in
        rw (d, f) (record {
          room = rw (length-entered idx s.vertices h) y.room;
          indexed =
              rw (kmers-born k text vs s.vertices q (let r = x.room-v in omega arith))
              (entered_at k (kmers_of k text vs s.vertices) idx (part k text q) y.indexed (sym hw ∙ e ∙ sym n) (let z = y.room in omega arith) s.vertices h (sym n) hh);
        })

-- an edge more changes no kmer
pub index-edge : (k : ℕ) (text vs idx : List ℕ) (most : Most) (r : Result At Refusal) (t : At) → Keeps k text vs idx most r → r ≡ Ok t → (vs' : List ℕ) (from b to m : ℕ) → vs' ≡ added_v vs from (code b) to m
    → Indexes k text vs' idx most t.vertices
index-edge k text vs idx most r t h e vs' from b to m d =
    let y = keeps-next k text vs idx most r t h e in
    rw d (record { room = y.room; indexed = rw (kmers-added k text vs from (code b) to m t.vertices (code_lt b)) y.indexed })

pub index-start : (k : ℕ) (text vs idx : List ℕ) (most : Most) → Fresh (most.vertices + 1) idx → Indexes k text vs idx most 0
unfolding kmers_of
index-start k text vs idx most f =
    record { room = (let z = f.size in omega arith); indexed = rw (rows_none _) (index-empty k idx f.zero) }

-- ---- the whole
pub fresh-one : (v : ℕ) (idx : List ℕ) → 1 ≤ v → Fresh v idx → Fresh (v - 1 + 1) idx
fresh-one v idx h f = let z : v - 1 + 1 ≡ v = omega arith in rw z f

pub index-finding : (k : ℕ) (text vs idx : List ℕ) (most : Most) (r : Result At Refusal) (t : At) → Keeps k text vs idx most r → r ≡ Ok t → Finding k text vs idx t.vertices
index-finding k text vs idx most r t h e = let y = keeps-next k text vs idx most r t h e in record { buckets = (let z = y.room in omega arith); indexed = y.indexed }
