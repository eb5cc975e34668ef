-- What the call for the list is asked: the parts of the text, the program's maxima, and slices as long as told.
use Rattle.std.specs.Prelude.{◌≡◌, true, length, take, Float}
use Rattle.std.proofs.Math.Path.{sym, ap}
use Rattle.std.proofs.Common.{◌∙◌}
use mathlib.Core.List.{List, []}
use Prim.Native.Nat.{ℕ, ◌+◌, ◌*◌, ◌≤◌, max}
use Rattle.std.proofs.Math.Nat.{mul-le-mul}
use native.Mathlib.Omega.{arith}
use Rattle.definition.specs.Refusal.{first_broken}
use Rattle.definition.specs.Limits.{Input, is_long_enough, list_told, told_bases, told_origins, bases_stride}
use Rattle.definition.specs.Text.{Text, text_rules, size_of}
use Rattle.tables.specs.Widths.{path_numbers}
use Rattle.limits.specs.Rules.{none-broken}
use Rattle.slice_lengths.specs.Bounds.{k-most, max-le}
use Rattle.list_interface.specs.Handed.{input_for}
use Rattle.limits.specs.Long.{no_short, none-short}
use Rattle.list_lent.specs.Lent.{told_of, lent_of}
use Rattle.list_work.specs.Outcome.{Outputs, Tables}
use Rattle.list_call.specs.Within.{lengths_of}
use Rattle.text_form.specs.Numbers.{k-within}
use Rattle.text_form.specs.Parts.{part}
use Rattle.paths_text.specs.Sources.{Parted, parted-of, Ready}
use Rattle.paths_text.specs.Program.{asked-most}
use Rattle.text_form.specs.declared.header.Settings as text
use Rattle.paths_text.specs.declared.source.Source.{Source}
use Rattle.paths_input.specs.Asked.{settings_of}

-- what was read and not refused: its parts, and k and the paths asked
pub record Accepted (T E : List ℕ) (s : Source) : Type 0 where
  pub parted : Parted T E s
  pub k-few : s.settings.k ≤ 128
  pub asked-few : s.settings.asked ≤ 8

-- the input of the call for the list
abbrev pub input_here : Source → List ℕ → List ℕ → List Float → Input
input_here s T E c =
    input_for (settings_of s.settings) (part s.reference s.past T) (take s.ends E) (part s.bases s.qualities T) (part s.qualities s.end T) c

-- the lengths of the arrays
pub record Lends (o : Outputs) (w : Tables) : Type 0 where
  pub scores : 8 ≤ length o.scores
  pub closings : 8 ≤ length o.closings
  pub edges : 8 ≤ length o.edges
  pub bases : 2048 ≤ length o.bases
  pub sequences : 1024 ≤ length o.sequences
  pub places : 1024 ≤ length o.places
  pub w-vertices : 1536 ≤ length w.vertices
  pub w-edges : 1536 ≤ length w.edges
  pub w-index : 256 ≤ length w.index
  pub w-nodes : 1285 ≤ length w.nodes
  pub w-targets : 256 ≤ length w.targets
  pub w-paths : 1296 ≤ length w.paths
  pub w-scores : 144 ≤ length w.scores
  pub w-active : 1152 ≤ length w.active
  pub w-queue : 128 ≤ length w.queue
  pub w-closed : 8 ≤ length w.closed
  pub w-order : 256 ≤ length w.order
  pub w-marks : 256 ≤ length w.marks
  pub w-walks : 1024 ≤ length w.walks

-- the arrays have these lengths
pub lends-arrays : (o : Outputs) (w : Tables)
    → length o.scores ≡ 8
    → length o.closings ≡ 8
    → length o.edges ≡ 8
    → length o.bases ≡ 2048
    → length o.sequences ≡ 1024
    → length o.places ≡ 1024
    → length w.vertices ≡ 1536
    → length w.edges ≡ 1536
    → length w.index ≡ 256
    → length w.nodes ≡ 1285
    → length w.targets ≡ 256
    → length w.paths ≡ 1296
    → length w.scores ≡ 144
    → length w.active ≡ 1152
    → length w.queue ≡ 128
    → length w.closed ≡ 8
    → length w.order ≡ 256
    → length w.marks ≡ 256
    → length w.walks ≡ 1024
    → Lends o w
lends-arrays o w e1 e2 e3 e4 e5 e6 e7 e8 e9 e10 e11 e12 e13 e14 e15 e16 e17 e18 e19 =
    record {
      scores = omega (arith, e1);
      closings = omega (arith, e2);
      edges = omega (arith, e3);
      bases = omega (arith, e4);
      sequences = omega (arith, e5);
      places = omega (arith, e6);
      w-vertices = omega (arith, e7);
      w-edges = omega (arith, e8);
      w-index = omega (arith, e9);
      w-nodes = omega (arith, e10);
      w-targets = omega (arith, e11);
      w-paths = omega (arith, e12);
      w-scores = omega (arith, e13);
      w-active = omega (arith, e14);
      w-queue = omega (arith, e15);
      w-closed = omega (arith, e16);
      w-order = omega (arith, e17);
      w-marks = omega (arith, e18);
      w-walks = omega (arith, e19);
    }

module _ (s : Source) (T E : List ℕ) (c : List Float) (o : Outputs) (w : Tables) (l : Lends o w) (asked-few : s.settings.asked ≤ 8) (k-few : s.settings.k ≤ 128) where
  abbrev i : Input
  i = input_here s T E c

  -- so 7 is not met
  pub slices-long : is_long_enough (told_of i) (lent_of (lengths_of 8 o w)) ≡ true
  unfolding list_told told_bases told_origins bases_stride
  slices-long =
      let n : ℕ = s.settings.asked in
      let b : n * (s.settings.k + 128) ≤ 8 * 256 = mul-le-mul {m₂ = 256} asked-few (omega arith) in
      let walks : max 512 (max 512 (max 32 (n * 128))) ≤ 1024 =
      max-le 512 (max 512 (max 32 (n * 128))) 1024 (omega arith) (max-le 512 (max 32 (n * 128)) 1024 (omega arith) (max-le 32 (n * 128) 1024 (omega arith) (omega arith)))
      in
      sym
      (none-short
      ∙ no_short n (length o.edges) [] [] (omega (arith, l.edges))
      ∙ no_short n (length o.closings) _ _ (omega (arith, l.closings))
      ∙ no_short n (length o.scores) _ _ (omega (arith, l.scores))
      ∙ no_short _ (length w.walks) _ _ (omega (arith, walks, l.w-walks))
      ∙ no_short 256 (length w.marks) _ _ (omega (arith, l.w-marks))
      ∙ no_short 256 (length w.order) _ _ (omega (arith, l.w-order))
      ∙ no_short n (length w.closed) _ _ (omega (arith, l.w-closed))
      ∙ no_short 128 (length w.queue) _ _ (omega (arith, l.w-queue))
      ∙ no_short ((128 + n + 8) * 8) (length w.active) _ _ (omega (arith, l.w-active))
      ∙ no_short (128 + n + 8) (length w.scores) _ _ (omega (arith, l.w-scores))
      ∙ no_short (path_numbers (128 + n + 8)) (length w.paths) _ _ (omega (arith, l.w-paths))
      ∙ no_short 256 (length w.targets) _ _ (omega (arith, l.w-targets))
      ∙ no_short 1285 (length w.nodes) _ _ (omega (arith, l.w-nodes))
      ∙ no_short 256 (length w.index) _ _ (omega (arith, l.w-index))
      ∙ no_short 1536 (length w.edges) _ _ (omega (arith, l.w-edges))
      ∙ no_short 1536 (length w.vertices) _ _ (omega (arith, l.w-vertices))
      ∙ no_short (n * 128) (length o.places) _ _ (omega (arith, l.places))
      ∙ no_short (n * 128) (length o.sequences) _ _ (omega (arith, l.sequences))
      ∙ no_short (n * (s.settings.k + 128)) (length o.bases) _ _ (omega (arith, l.bases))
      ∙ no_short n 8 _ _ asked-few)

-- a text that no rule refuses
module _ {T E : List ℕ} {s : Source} (t : Text) (d : Ready T E s t) (z : 0 ≡ first_broken (text_rules t)) where
  k-most-here : s.settings.k ≤ 128
  unfolding text_rules
  k-most-here =
      let p = none-broken (text_rules t) (omega arith, (omega arith, (omega arith, (omega arith, (omega arith, tt))))) (sym z) in
      let e : s.settings.k ≡ size_of t.header.k = ap (λ (x : text.Settings). x.k) d.handed.settings in
      let m = k-most (size_of t.header.k) (sym (k-within t.header.k) ∙ p.0) in
      omega arith

  pub accepted : Accepted T E s
  accepted = record { parted = parted-of d; k-few = k-most-here; asked-few = asked-most t d.handed z }
