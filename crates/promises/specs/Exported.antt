-- What is said of the exported calls: the rows that a caller reads off the slices that `punelavoh_list` leaves, and the bytes that `punelavoh_origin` names. Assumes nothing.
use Rattle.std.specs.Prelude.{◌≡◌, ℕ, suc, ◌<◌, true, List, length, take, drop, get_or, Float}
use Rattle.definition.specs.Limits.{Sample, Input, is_long_enough}
use Rattle.definition.specs.Threading.{Origin}
use Rattle.definition.specs.Listing.{Row}
use Rattle.definition.specs.Calls.{origin_call}
use Rattle.origins.specs.declared.OriginAnswer.{OriginAnswer}
use Rattle.origins.specs.Parts.{lent_by, Names}
use Rattle.list_interface.specs.declared.ListAnswer.{ListAnswer}
use Rattle.list_work.specs.Outcome.{Outputs, Tables}
use Rattle.list_lent.specs.Lent.{told_of, lent_of}
use Rattle.list_call.specs.Within.{lengths_of}
use Rattle.path_rows.specs.declared.PathRow.{PathRow}
use Rattle.punelavoh.specs.Records.{slices_of}
use Rattle.promises.specs.Reading.{read_rows}

-- ---- what is read and lent

-- the rows that a caller reads off the slices that the call left: as many as it answered paths
abbrev pub rows_left : Input → ListAnswer → List PathRow → Outputs → List (Row Float)
rows_left i r rows o = read_rows i (slices_of rows o) r.paths

-- each slice lent is at least as long as told
abbrev pub LentTold : Input → List PathRow → Outputs → Tables → Type 0
LentTold i rows o w = is_long_enough (told_of i) (lent_of (lengths_of (length rows) o w)) ≡ true

-- ---- what the call for an origin names

-- the part of the reference or of the read bases that an answer names
abbrev pub bytes_named : Sample → OriginAnswer → List ℕ
bytes_named s a = take a.length (drop a.start (lent_by s.reference s.bases a.in_reads))

-- For edge e of a row, whatever `punelavoh_origin` answers of the edge's origin by its contract: it is no refusal, and the bytes that it names are, byte for
-- byte, the k + 1 bases that the edge spells.
abbrev pub EdgesNamed : Sample → Row Float → Type 0
EdgesNamed s row =
    (none : Origin) (e : ℕ) → e < row.edges → (a : OriginAnswer)
    → (let o = get_or row.origins e none in Names s.k s.reference s.ends s.bases o (origin_call s.k s.reference s.ends s.bases o) a)
    → (a.refusal ≡ 0) × (bytes_named s a ≡ take (suc s.k) (drop e row.bases))
