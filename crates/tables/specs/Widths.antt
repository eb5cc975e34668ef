-- How many numbers so many rows of each table take. Assumes nothing.
use Rattle.std.specs.Prelude.{ℕ, ◌*◌}

abbrev pub vertex_numbers : ℕ → ℕ
vertex_numbers n = n * 12

abbrev pub edge_numbers : ℕ → ℕ
edge_numbers n = n * 6

abbrev pub kmer_numbers : ℕ → ℕ
kmer_numbers n = n * 2

abbrev pub node_numbers : ℕ → ℕ
node_numbers n = n * 5

abbrev pub open_numbers : ℕ → ℕ
open_numbers n = n * 2

abbrev pub path_numbers : ℕ → ℕ
path_numbers n = n * 9

abbrev pub queued_numbers : ℕ → ℕ
queued_numbers n = n * 2

-- the offers of a fork, eight at most, take so many
abbrev pub offer_numbers : ℕ
offer_numbers = 32
