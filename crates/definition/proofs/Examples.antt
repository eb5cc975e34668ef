-- The inputs of "Potatoes on paper" and the way a table asks about them: Cases has the twelve, Borders what lies beside them.
use Prim.Native.Nat.{ℕ, zero, suc, ◌+◌}
use mathlib.Core.Bool.{true, false, cond}
use mathlib.Core.List.{List, [], ◌∷◌, ◌++◌, map}
use lib.IntN.{pos, negsuc}
use lib.Dec.{eqb}
use lib.ListN.{length, take, drop, replicate}
use lib.Ieee.{Float, fin, add, sub, lt, eq, le, binary64, to_bits}
use Rattle.laws.specs.Lists.{keep}
use Rattle.definition.specs.Refusal.{Result, ok, refused, open_refusal}
use Rattle.definition.specs.Score.{open_score}
use Rattle.definition.specs.Limits.{Sample, GraphMaxima, SearchMaxima, Input, float_zero, bases_stride, told_bases, told_origins, open_limits}
use Rattle.definition.specs.Stretch.{open_stretch}
use Rattle.definition.specs.Threading.{Ends, eq_ends, Edge, open_threading}
use Rattle.definition.specs.Evidence.{Tree, nodes, open_evidence}
use Rattle.definition.specs.Search.{open_search}
use Rattle.definition.specs.Building.{Built, built, open_building}
use Rattle.definition.specs.Listing.{open_listing}
use Rattle.definition.specs.Origins.{open_origins}
use Rattle.definition.specs.Calls.{flat, edge_row, node_row, PathRow, ListSlices, ListOutcome, list_call, OriginOutcome, origin_call, open_calls}

-- ---- bases

abbrev pub A : ℕ
A = 65

abbrev pub C : ℕ
C = 67

abbrev pub G : ℕ
G = 71

abbrev pub T : ℕ
T = 84

-- "R is CAACTGG; A is read CAAGTGG; B is read CAACTGG"
abbrev pub seq_r : List ℕ
seq_r = C ∷ A ∷ A ∷ C ∷ T ∷ G ∷ G ∷ []

abbrev pub seq_a : List ℕ
seq_a = C ∷ A ∷ A ∷ G ∷ T ∷ G ∷ G ∷ []

-- ---- inputs

abbrev pub one : Float
one = fin false 1 (pos 0)

abbrev pub minus_one : Float
minus_one = fin true 1 (pos 0)

-- "Column 0, 0, 1, 1.5, 2 (places 0 to 4)", but for place 2
abbrev pub column : Float → List Float
column two = float_zero ∷ float_zero ∷ two ∷ fin false 3 (negsuc 0) ∷ fin false 1 (pos 1) ∷ []

abbrev pub room : ℕ → ℕ → ℕ → GraphMaxima
room v e n = record { vertices = v; edges = e; nodes = n }

abbrev pub allowance : ℕ → ℕ → ℕ → SearchMaxima
allowance e a p = record { path_edges = e; active = a; pushes = p }

-- reads of good quality, one behind the other
abbrev pub reads_of : List (List ℕ) → List ℕ
reads_of [] = []
reads_of (r ∷ rs) = r ++ reads_of rs

abbrev pub ends_of : ℕ → List (List ℕ) → List ℕ
ends_of n [] = []
ends_of n (r ∷ rs) = (n + length r) ∷ ends_of (n + length r) rs

-- k, the reference, the reads and their qualities; "minimum quality 10"
abbrev pub sample_with : ℕ → List ℕ → List (List ℕ) → List ℕ → Sample
sample_with k r rs qs = record { k = k; quality = 10; reference = r; ends = ends_of 0 rs; bases = reads_of rs; qualities = qs }

abbrev pub sample : ℕ → List ℕ → List (List ℕ) → Sample
sample k r rs = sample_with k r rs (replicate (length (reads_of rs)) 40)

-- "paths asked 5, recovery off"; the maxima of the program `paths`
abbrev pub ask : Sample → ℕ → Input
ask s t =
    record {
      sample = s;
      asked = 5;
      threshold = pos t;
      recovery = false;
      graph_maxima = room 128 256 256;
      search_maxima = allowance 128 8 128;
      column = column one;
    }

-- the same input with another number of paths asked, with recovery, with other maxima or another column
abbrev pub asking : ℕ → Input → Input
asking n i =
    record { sample = i.sample; asked = n; threshold = i.threshold; recovery = i.recovery; graph_maxima = i.graph_maxima; search_maxima = i.search_maxima; column = i.column }

abbrev pub recovering : Input → Input
recovering i =
    record { sample = i.sample; asked = i.asked; threshold = i.threshold; recovery = true; graph_maxima = i.graph_maxima; search_maxima = i.search_maxima; column = i.column }

abbrev pub within : GraphMaxima → SearchMaxima → Input → Input
within g s i =
    record { sample = i.sample; asked = i.asked; threshold = i.threshold; recovery = i.recovery; graph_maxima = g; search_maxima = s; column = i.column }

abbrev pub over : List Float → Input → Input
over c i =
    record { sample = i.sample; asked = i.asked; threshold = i.threshold; recovery = i.recovery; graph_maxima = i.graph_maxima; search_maxima = i.search_maxima; column = c }

-- ---- questions and replies

pub data Question : Type 0 where
  -- the call for the list
  listing : Input → Question
  -- the same with a workspace slice: the length told, and the length lent
  lending : ℕ → ℕ → Input → Question
  -- the origins that the call for the list writes for its first row, sequence and place in turn, and its flag
  first_origins : Input → Question
  -- the bits of the scores of the call for the list
  score_bits : Input → Question
  -- the greatest length of the waiting list
  longest : Input → Question
  -- the node rows of the tree at a vertex
  tree_of : ℕ → Input → Question
  -- the supports of edges
  supports_of : List Ends → Input → Question
  -- the rows of edges, as the call for edges and trees writes them
  edge_rows : List Ends → Input → Question
  -- the call for the bytes at an origin: sequence and place
  origin : ℕ → ℕ → Input → Question

pub record Path : Type 0 where
  pub score : Float
  pub closing : ℕ
  pub edges : ℕ
  pub bases : List ℕ

pub data Reply : Type 0 where
  no : ℕ → Reply
  -- the list's paths from the first, and the pushes
  paths : List Path → ℕ → Reply
  numbers : List ℕ → Reply

-- Slices of just the lengths told are lent, full of what is not to stay.
abbrev blank : Input → ListSlices
blank i =
    record {
      rows = replicate i.asked (record { score = one; closing = 9; edges = 9; is_ref = true });
      bases = replicate (told_bases i.sample.k i.asked i.search_maxima) 9;
      sequences = replicate (told_origins i.asked i.search_maxima) 9;
      places = replicate (told_origins i.asked i.search_maxima) 9;
    }

-- row r of the lent slices, its bases from r times the stride
abbrev paths_from : ℕ → ℕ → ℕ → List PathRow → List ℕ → List Path
paths_from k stride zero rs bs = []
paths_from k stride (suc n) [] bs = []
paths_from k stride (suc n) (r ∷ rs) bs =
    record { score = r.score; closing = r.closing; edges = r.edges; bases = take (k + r.edges) bs } ∷ paths_from k stride n rs (drop stride bs)

abbrev list_reply : (ListOutcome → Reply) → ListOutcome → Reply
list_reply f o = elim (eqb o.answer.refusal 0) [ true ↦ f o | false ↦ no o.answer.refusal ]

abbrev all_paths : Input → ListOutcome → Reply
all_paths i o =
    paths (paths_from i.sample.k (bases_stride i.sample.k i.search_maxima) o.answer.paths o.slices.rows o.slices.bases) o.answer.pushes

abbrev all_bits : ListOutcome → Reply
all_bits o = numbers (map (λ (r : PathRow). to_bits binary64 r.score) (take o.answer.paths o.slices.rows))

abbrev zip_origins : ℕ → List ℕ → List ℕ → List ℕ
zip_origins zero ss ps = []
zip_origins (suc n) [] ps = []
zip_origins (suc n) (s ∷ ss) [] = []
zip_origins (suc n) (s ∷ ss) (p ∷ ps) = s ∷ p ∷ zip_origins n ss ps

abbrev origins_of : ListOutcome → List PathRow → List ℕ
origins_of o [] = []
origins_of o (r ∷ rs) = cond r.is_ref 1 0 ∷ zip_origins r.edges o.slices.sequences o.slices.places

abbrev built_reply : (Built → List ℕ) → Result Built → Reply
built_reply f (refused n) = no n
built_reply f (ok b) = numbers (f b)

-- the edges of these ends, in their order
abbrev edges_of : List Ends → Built → List Edge
edges_of [] b = []
edges_of (e ∷ es) b = keep (λ (d : Edge). eq_ends e d.ends) b.edges ++ edges_of es b

abbrev origin_reply : OriginOutcome → Reply
origin_reply o = elim (eqb o.refusal 0) [ true ↦ numbers o.bytes | false ↦ no o.refusal ]

unfoldable pub reply : Question → Reply
unfolding open_refusal open_score open_limits open_stretch open_threading open_evidence open_search open_building open_listing open_origins open_calls add sub lt eq le to_bits
reply (listing i) = list_reply (all_paths i) (list_call i [] [] (blank i))
reply (lending told lent i) = list_reply (all_paths i) (list_call i (told ∷ []) (lent ∷ []) (blank i))
reply (first_origins i) = list_reply (λ o. numbers (origins_of o o.slices.rows)) (list_call i [] [] (blank i))
reply (score_bits i) = list_reply all_bits (list_call i [] [] (blank i))
reply (longest i) = list_reply (λ o. numbers (o.answer.longest ∷ [])) (list_call i [] [] (blank i))
reply (tree_of v i) = built_reply (λ b. flat node_row (nodes (keep (λ (t : Tree). eqb t.vertex v) b.trees))) (built i.sample i.graph_maxima)
reply (supports_of es i) = built_reply (λ b. map (λ (d : Edge). d.support) (edges_of es b)) (built i.sample i.graph_maxima)
reply (edge_rows es i) = built_reply (λ b. flat edge_row (edges_of es b)) (built i.sample i.graph_maxima)
reply (origin s p i) = origin_reply (origin_call i.sample.k i.sample.reference i.sample.ends i.sample.bases (record { sequence = s; place = p }))

-- ---- tables

pub record Case : Type 0 where
  pub question : Question
  pub expected : Reply

abbrev pub asks : Question → Reply → Case
asks q r = record { question = q; expected = r }

abbrev pub path : Float → ℕ → ℕ → List ℕ → Path
path s n e b = record { score = s; closing = n; edges = e; bases = b }

abbrev pub edge : ℕ → ℕ → Ends
edge a b = record { from = a; to = b }
