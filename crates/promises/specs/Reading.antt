-- How a caller reads the list off the output slices of the call for the list. Assumes nothing.
use Rattle.std.specs.Prelude.{ℕ, zero, suc, ◌+◌, ◌*◌, false, List, [], ◌∷◌, take, drop, get_or, Float}
use Rattle.std.specs.Float.{nan}
use Rattle.definition.specs.Limits.{Input}
use Rattle.definition.specs.Threading.{Origin}
use Rattle.definition.specs.Listing.{Row}
use Rattle.definition.specs.Calls.{PathRow, ListSlices, ListOutcome}

-- what is read beyond the last record of a slice; no row of an accepted list is
abbrev pub no_record : PathRow
no_record = record { score = nan; closing = 0; edges = 0; is_ref = false }

-- "per edge, the origin (0 the reference, else the read, from 1; and the place in it, from 0)": the sequences and the places stand in two slices
unfoldable pub origins_of : List ℕ → List ℕ → List Origin
origins_of [] ps = []
origins_of (s ∷ ss) [] = []
origins_of (s ∷ ss) (p ∷ ps) = record { sequence = s; place = p } ∷ origins_of ss ps

-- "path rows holding score, closing number, edge count and flag", and what goes beside: "Row r, from 0, has its bases from r times (k plus the path-edge
-- maximum) and its origins from r times that maximum"; "A path of e edges has k+e bases".
unfoldable pub row_beside : Input → ListSlices → ℕ → PathRow → Row Float
row_beside i o r x =
    record {
      score = x.score;
      closing = x.closing;
      edges = x.edges;
      is_ref = x.is_ref;
      bases = take (i.sample.k + x.edges) (drop (r * (i.sample.k + i.search_maxima.path_edges)) o.bases);
      origins =
          origins_of (take x.edges (drop (r * i.search_maxima.path_edges) o.sequences)) (take x.edges (drop (r * i.search_maxima.path_edges) o.places));
    }

-- row r, "from 0", by the record at place r of the "lent slice of records"
unfoldable pub read_row : Input → ListSlices → ℕ → Row Float
read_row i o r = row_beside i o r (get_or o.rows r no_record)

-- n rows, from row r on
unfoldable pub read_from : Input → ListSlices → ℕ → ℕ → List (Row Float)
read_from i o r zero = []
read_from i o r (suc n) = read_row i o r ∷ read_from i o (suc r) n

-- the first n rows
unfoldable pub read_rows : Input → ListSlices → ℕ → List (Row Float)
read_rows i o n = read_from i o 0 n

-- the list of a call's outcome: as many rows as the answer tells paths
abbrev pub read_list : Input → ListOutcome → List (Row Float)
read_list i o = read_rows i o.slices o.answer.paths
