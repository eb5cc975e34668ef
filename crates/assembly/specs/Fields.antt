-- Where each field of a vertex and of an edge stands: known here and to the accessors of this crate. Assumes nothing.
use Rattle.std.specs.Prelude.{Option, None, Some, ℕ, ◌+◌, ◌*◌, ◌<◌, ◌≤◌, List, length}
use Rattle.laws.specs.Records.{field, put_field}
use Rattle.tables.specs.Widths.{vertex_numbers, edge_numbers}

-- ---- vertices

-- where the field c of the vertex v stands, and where its row ends
abbrev pub vertex_cell : ℕ → ℕ → ℕ
vertex_cell v c = v * 12 + c

abbrev pub vertex_end : ℕ → ℕ
vertex_end v = v * 12 + 12

-- the table has the vertex v
abbrev pub HasVertex : List ℕ → ℕ → Type 0
HasVertex vs v = vertex_end v ≤ length vs

-- the table has the first n vertices
abbrev pub HasVertices : List ℕ → ℕ → Type 0
HasVertices vs n = vertex_numbers n ≤ length vs

abbrev pub vertex_field : List ℕ → ℕ → ℕ → ℕ
vertex_field vs v c = field vs 12 v c

-- what a slot holds of an edge: its number plus 1, or 0
abbrev pub slot_of : Option ℕ → ℕ
slot_of None = 0
slot_of (Some e) = e + 1

-- the slot of v's out-edge whose target's last base has the code c
abbrev pub out_edge : List ℕ → ℕ → ℕ → ℕ
out_edge vs v c = field vs 12 v c

abbrev pub kmer_place : List ℕ → ℕ → ℕ
kmer_place vs v = field vs 12 v 8

abbrev pub incoming_count : List ℕ → ℕ → ℕ
incoming_count vs v = field vs 12 v 9

-- the number plus 1 of an edge into v
abbrev pub incoming_edge : List ℕ → ℕ → ℕ
incoming_edge vs v = field vs 12 v 10

-- the slot of the root of the vertex's tree, which the graph does not read
abbrev pub tree_root : List ℕ → ℕ → ℕ
tree_root vs v = field vs 12 v 11

abbrev pub root_cell : ℕ → ℕ
root_cell v = v * 12 + 11

abbrev pub put_tree_root : List ℕ → ℕ → ℕ → List ℕ
put_tree_root vs v x = put_field vs 12 v 11 x

-- ---- edges

-- the fields of an edge, by number
abbrev pub from_field : ℕ
from_field = 0

abbrev pub to_field : ℕ
to_field = 1

abbrev pub support_field : ℕ
support_field = 2

abbrev pub mark_field : ℕ
mark_field = 3

abbrev pub sequence_field : ℕ
sequence_field = 4

abbrev pub place_field : ℕ
place_field = 5

abbrev pub IsEdgeField : ℕ → Type 0
IsEdgeField j = j < 6

-- where the field j of the edge i stands
abbrev pub edge_cell : ℕ → ℕ → ℕ
edge_cell i j = i * 6 + j

-- the table has the edge i
abbrev pub HasEdge : List ℕ → ℕ → Type 0
HasEdge es i = i * 6 + 6 ≤ length es

-- the table has the first m edges
abbrev pub HasEdges : List ℕ → ℕ → Type 0
HasEdges es m = edge_numbers m ≤ length es

abbrev pub edge_field : List ℕ → ℕ → ℕ → ℕ
edge_field es i j = field es 6 i j

abbrev pub edge_from : List ℕ → ℕ → ℕ
edge_from es i = field es 6 i 0

abbrev pub edge_to : List ℕ → ℕ → ℕ
edge_to es i = field es 6 i 1

abbrev pub edge_support : List ℕ → ℕ → ℕ
edge_support es i = field es 6 i 2

abbrev pub edge_mark : List ℕ → ℕ → ℕ
edge_mark es i = field es 6 i 3

abbrev pub edge_sequence : List ℕ → ℕ → ℕ
edge_sequence es i = field es 6 i 4

abbrev pub edge_place : List ℕ → ℕ → ℕ
edge_place es i = field es 6 i 5
