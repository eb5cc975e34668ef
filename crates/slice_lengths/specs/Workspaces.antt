-- How many elements each workspace slice is told: one definition for each table.
use Rattle.std.specs.Prelude.{ℕ, ◌+◌, ◌*◌, max}
use Rattle.tables.specs.Widths.{vertex_numbers, edge_numbers, kmer_numbers, node_numbers, open_numbers, path_numbers, queued_numbers, offer_numbers}
use Rattle.definition.specs.Limits.{GraphMaxima, SearchMaxima}

-- a row for each vertex
abbrev pub vertex_table : GraphMaxima → ℕ
vertex_table g = vertex_numbers g.vertices

-- a row for each edge
abbrev pub edge_table : GraphMaxima → ℕ
edge_table g = edge_numbers g.edges

-- for each vertex, by which a kmer is found; in the search, the sole out-edge of each vertex where a path goes on without a decision
abbrev pub kmer_index : GraphMaxima → ℕ
kmer_index g = kmer_numbers g.vertices

-- a row for each tree node, and one row more
abbrev pub node_table : GraphMaxima → ℕ
node_table g = node_numbers (g.nodes + 1)

-- a row for each tree that a walk has open
abbrev pub open_trees : GraphMaxima → ℕ
open_trees g = open_numbers g.nodes

-- the target of each edge
abbrev pub target_table : GraphMaxima → ℕ
target_table g = g.edges

-- how many path records are ever made: one for each push, each path that closes, and each extension of a fork that is not pushed any more
abbrev pub path_count : ℕ → SearchMaxima → ℕ
path_count asked s = s.pushes + asked + 8

-- a row for each path
abbrev pub path_table : ℕ → SearchMaxima → ℕ
path_table asked s = path_numbers (path_count asked s)

-- a score for each path
abbrev pub path_scores : ℕ → SearchMaxima → ℕ
path_scores asked s = path_count asked s

-- the tree nodes that each path has active
abbrev pub active_nodes : ℕ → SearchMaxima → ℕ
active_nodes asked s = path_count asked s * s.active

-- the waiting paths
abbrev pub waiting_queue : SearchMaxima → ℕ
waiting_queue s = s.pushes

-- the closed paths
abbrev pub closed_paths : ℕ → ℕ
closed_paths asked = asked

-- the pivotal edges in their order
abbrev pub pivotal_order : GraphMaxima → ℕ
pivotal_order g = g.edges

-- a mark for each edge that is still pivotal
abbrev pub pivotal_marks : GraphMaxima → ℕ
pivotal_marks g = g.edges

-- One slice for what is needed one after the other: the open trees, the edges whose targets are still to be looked at for pivotal edges, the offers of a
-- fork, and the edges of all closed paths.
abbrev pub path_walks : ℕ → GraphMaxima → SearchMaxima → ℕ
path_walks asked g s = max (open_trees g) (max (queued_numbers g.edges) (max offer_numbers (asked * s.path_edges)))

-- the columns from which the rows of the list are copied: scores, closing numbers, edge counts
abbrev pub row_columns : ℕ → ℕ
row_columns asked = asked
