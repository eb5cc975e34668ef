-- `float_of` meets its contract, by whether the pattern is a NaN's. Assumes nothing.
use Rattle.std.proofs.Common.{◌∙◌}
use Rattle.paths_text.specs.Entries.{not-nan-exponent, not-nan-digits, the_nan, nan-bits}
use Rattle.paths_text.proofs.column.float_of.Goals as goal
use Rattle.paths_text.proofs.column.float_of.Goals.{else-exponent-eq2047-via-then-exponent-eq2047+else-digits-ne0, else-exponent-eq2047-via-else-exponent-eq2047}

pub returns-then-digits-ne0 : goal.returns-then-digits-ne0
returns-then-digits-ne0 c = the_nan ∙ nan-bits _ c.if-exponent-eq2047.true c.if-digits-ne0.true

pub float_from_bits-result : goal.float_from_bits-result
float_from_bits-result c =
    elim c.else-exponent-eq2047.branch [
      | else-exponent-eq2047-via-then-exponent-eq2047+else-digits-ne0 w ↦ not-nan-digits _ w.if-digits-ne0.false
      | else-exponent-eq2047-via-else-exponent-eq2047 w ↦ not-nan-exponent _ w.if-exponent-eq2047.false
    ]
