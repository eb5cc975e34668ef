-- The parts of the workspace that are told: lent to the work, which may leave anything there, and zero afterwards. Assumes nothing.
use Rattle.std.specs.Prelude.{◌≡◌, List, ◌++◌, ℕ, ◌≤◌, length, take, drop, replicate}
use Rattle.std.proofs.Common.{sym, ap, subst, ◌∙◌, arith, length-take-le}
use Rattle.std.proofs.Math.Seq.{length_front}
use Rattle.definition.specs.Limits.{Input}
use Rattle.definition.specs.Calls.{written_at}
use Rattle.theorems.proofs.Checks.{Checked}
use Rattle.slice_lengths.specs.Bounds.{InLimits, settings-most}
use Rattle.slice_lengths.specs.declared.Workspace.{Workspace}
use Rattle.slice_lengths.specs.Lengths.{workspace_told}
use Rattle.limits.specs.declared.Maxima.{Maxima}
use Rattle.limits.specs.Handed.{graph_maxima_of, search_maxima_of}
use Rattle.list_interface.specs.declared.Settings.{Settings}
use Rattle.list_interface.specs.Handed.{maxima_of}
use Rattle.graph_rows.specs.Zeros.{cleared-over}
use Rattle.list_work.specs.Outcome.{Outputs, Tables}
use Rattle.list_call.specs.Outcome.{told_for, tables_by, zeroed_to, float_zero, cleared_tables}
use Rattle.list_work.specs.Works.{Works}
use Rattle.list_call.specs.Within.{Room, Within}

pub in-limits : (i : Input) → Checked i → InLimits i.asked i.graph_maxima i.search_maxima
in-limits i c = settings-most i.asked i.graph_maxima i.search_maxima c.settings-fit

-- the maxima that the lengths are told of are those of the settings
module _ (a : Settings) (m : Maxima) (e : m ≡ maxima_of a) where
  pub maxima-within : InLimits a.asked (graph_maxima_of a.graph) (search_maxima_of a.search) → InLimits m.asked (graph_maxima_of m.graph) (search_maxima_of m.search)
  maxima-within = subst (λ (b : Maxima). InLimits b.asked (graph_maxima_of b.graph) (search_maxima_of b.search)) (sym e)

  pub maxima-told : (t : Workspace) → t ≡ workspace_told m.asked (graph_maxima_of m.graph) (search_maxima_of m.search) → t ≡ workspace_told a.asked (graph_maxima_of a.graph) (search_maxima_of a.search)
  maxima-told t h = h ∙ (λ j. workspace_told (e j).asked (graph_maxima_of (e j).graph) (search_maxima_of (e j).search))

-- ---- one slice d, whose first n elements are lent and are e afterwards

module _ {A : Type 0} (d e : List A) (n : ℕ) where
  pub part-kept : length e ≡ length (take n d) → n ≤ length d → n ≤ length (e ++ drop n d)
  part-kept k h = let z = length_front d e n k in omega arith

  pub part-cleared : (z : A) (x : List A) → length e ≡ length (take n d) → n ≤ length d → x ≡ written_at 0 (replicate n z) (e ++ drop n d) → x ≡ zeroed_to z n d
  part-cleared z x k h f = f ∙ cleared-over z n d e (k ∙ length-take-le n d h)

-- ---- all slices

-- t is what the code was told
module _ (i : Input) (o : Outputs) (w : Tables) (h : Within i o w) (t : Workspace) (e : t ≡ told_for i) where
  pub room-told : Room t w
  room-told = subst (λ (x : Workspace). Room x w) (sym e) h.room

  pub parts-lent : Works i o (tables_by take take t w)
  parts-lent =
      subst (λ (x : Workspace). Works i o (tables_by take take x w)) (sym e)
      (record {
        checks = h.checks;
        outs = h.outs;
        vertices = length-take-le (told_for i).vertices w.vertices h.room.vertices;
        edges = length-take-le (told_for i).edges w.edges h.room.edges;
        index = length-take-le (told_for i).index w.index h.room.index;
        nodes = length-take-le (told_for i).nodes w.nodes h.room.nodes;
        targets = length-take-le (told_for i).targets w.targets h.room.targets;
        paths = length-take-le (told_for i).paths w.paths h.room.paths;
        scores = length-take-le (told_for i).scores w.scores h.room.scores;
        active = length-take-le (told_for i).active w.active h.room.active;
        queue = length-take-le (told_for i).queue w.queue h.room.queue;
        closed = length-take-le (told_for i).closed w.closed h.room.closed;
        order = length-take-le (told_for i).order w.order h.room.order;
        marks = length-take-le (told_for i).marks w.marks h.room.marks;
        walks = length-take-le (told_for i).walks w.walks h.room.walks;
      })

pub all-cleared : (i : Input) (t : Workspace) (w x : Tables) → t ≡ told_for i
    → x.vertices ≡ zeroed_to 0 t.vertices w.vertices
    → x.edges ≡ zeroed_to 0 t.edges w.edges
    → x.index ≡ zeroed_to 0 t.index w.index
    → x.nodes ≡ zeroed_to 0 t.nodes w.nodes
    → x.targets ≡ zeroed_to 0 t.targets w.targets
    → x.paths ≡ zeroed_to 0 t.paths w.paths
    → x.scores ≡ zeroed_to float_zero t.scores w.scores
    → x.active ≡ zeroed_to 0 t.active w.active
    → x.queue ≡ zeroed_to 0 t.queue w.queue
    → x.closed ≡ zeroed_to 0 t.closed w.closed
    → x.order ≡ zeroed_to 0 t.order w.order
    → x.marks ≡ zeroed_to 0 t.marks w.marks
    → x.walks ≡ zeroed_to 0 t.walks w.walks
    → x ≡ cleared_tables i w
unfolding cleared_tables
all-cleared i t w x told a b c d e f g h l m n o p =
    (λ j.
    record {
      vertices = a j;
      edges = b j;
      index = c j;
      nodes = d j;
      targets = e j;
      paths = f j;
      scores = g j;
      active = h j;
      queue = l j;
      closed = m j;
      order = n j;
      marks = o j;
      walks = p j;
    })
    ∙ ap (λ (u : Workspace). tables_by (zeroed_to 0) (zeroed_to float_zero) u w) told
