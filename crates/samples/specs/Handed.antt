-- The slices that a call is handed, as lists.
use Rattle.std.specs.Prelude.{ℕ, List, ◌++◌}
use Rattle.definition.specs.Limits as definition
use Rattle.samples.specs.declared.Text.{Text}
use Rattle.samples.specs.declared.Sample.{Sample}

abbrev pub text_of : Text → List ℕ
text_of t = t.reference.now ++ t.bases.now

abbrev pub sample_of : Sample → definition.Sample
sample_of s =
    record {
      k = s.k;
      quality = s.quality;
      reference = s.text.reference.now;
      ends = s.ends.now;
      bases = s.text.bases.now;
      qualities = s.qualities.now;
    }
