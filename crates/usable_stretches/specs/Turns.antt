-- The walk over the runs of a read: what may be asked, and what a step gives. Assumes nothing.
use Rattle.std.specs.Prelude.{◌≡◌, ℕ, ◌+◌, ◌<◌, ◌≤◌, length, Option, Some, None}
use Rattle.std.proofs.Common.{◌∙◌}
use Rattle.samples.specs.declared.Sample.{Sample}
use Rattle.definition.specs.Stretch.{usable}
use Rattle.usable_stretches.specs.declared.Run.{Run}
use Rattle.usable_stretches.specs.declared.Runs.{Runs}
use Rattle.usable_stretches.specs.Runs.{RunEnd}

-- the read lies in the bases, and each of its bytes has a quality
abbrev pub Lies : Runs → Type 0
Lies s = (s.end ≤ length s.sample.text.bases.now) × (s.end ≤ length s.sample.qualities.now)

-- the walk is over the runs of a read of the sample that ends at e
pub record Over (m : Sample) (e : ℕ) (s : Runs) : Type 0 where
  pub sample : s.sample ≡ m
  pub end : s.end ≡ e

pub over-lies : {m : Sample} {e : ℕ} {s : Runs} → Over m e s → e ≤ length m.text.bases.now → e ≤ length m.qualities.now → Lies s
over-lies o a b = rw (o.sample, o.end) (a, b)

-- and those from `start` on are left
pub record Begun (m : Sample) (start e : ℕ) (s : Runs) : Type 0 where
  pub over : Over m e s
  pub first : s.at ≡ start

pub begun : {m : Sample} {start e : ℕ} {s r : Runs} → r ≡ s → Begun m start e s → Begun m start e r
begun q b = rw q b

-- by the answer: the run at p of a read that ends at e, behind which p' is; or there is none
abbrev pub Runs_at : Sample → ℕ → ℕ → Option Run → ℕ → Type 0
Runs_at m e p (Some r) p' = (p < e) × (r.from ≡ p) × RunEnd (usable m.quality) m.text.bases.now m.qualities.now p e r.to × (p' ≡ r.to + 1)
Runs_at m e p None p' = e ≤ p

-- a step gave r and left t
pub record Steps (s : Runs) (r : Option Run) (t : Runs) : Type 0 where
  pub over : Over s.sample s.end t
  pub gives : Runs_at s.sample s.end s.at r t.at

-- the same of a walk over the runs of a read of m that ends at e
pub record Turned (m : Sample) (e : ℕ) (s : Runs) (r : Option Run) (t : Runs) : Type 0 where
  pub over : Over m e t
  pub gives : Runs_at m e s.at r t.at

pub turned : {m : Sample} {e : ℕ} {s t : Runs} {r : Option Run} → Over m e s → Steps s r t → Turned m e s r t
turned o x =
    record {
      over = record { sample = x.over.sample ∙ o.sample; end = x.over.end ∙ o.end };
      gives = rw (o.sample, o.end) at x.gives;
    }
