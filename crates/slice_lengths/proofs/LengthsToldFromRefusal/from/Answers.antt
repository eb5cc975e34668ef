-- `LengthsTold::from` meets its contract: every field but the refusal is the default, 0. Assumes nothing.
use Rattle.slice_lengths.specs.Lengths.{refused_lengths, zero-workspace}
use Rattle.slice_lengths.proofs.LengthsToldFromRefusal.from.Goals as goal

pub returns : goal.returns
unfolding refused_lengths
returns c = rw (c.from.ensures, c.default.ensures.1.0, c.default.ensures.1.1.0, c.default.ensures.1.1.1.0, c.default.ensures.1.1.1.1.0, c.default.ensures.1.1.1.1.1.0, zero-workspace _ c.default.ensures.1.1.1.1.1.1.0 c.default.ensures.1.1.1.1.1.1.1.0 c.default.ensures.1.1.1.1.1.1.1.1.0 c.default.ensures.1.1.1.1.1.1.1.1.1.0 c.default.ensures.1.1.1.1.1.1.1.1.1.1.0 c.default.ensures.1.1.1.1.1.1.1.1.1.1.1.0 c.default.ensures.1.1.1.1.1.1.1.1.1.1.1.1.0 c.default.ensures.1.1.1.1.1.1.1.1.1.1.1.1.1.0 c.default.ensures.1.1.1.1.1.1.1.1.1.1.1.1.1.1.0 c.default.ensures.1.1.1.1.1.1.1.1.1.1.1.1.1.1.1.0 c.default.ensures.1.1.1.1.1.1.1.1.1.1.1.1.1.1.1.1.0 c.default.ensures.1.1.1.1.1.1.1.1.1.1.1.1.1.1.1.1.1.0 c.default.ensures.1.1.1.1.1.1.1.1.1.1.1.1.1.1.1.1.1.1.0 c.default.ensures.1.1.1.1.1.1.1.1.1.1.1.1.1.1.1.1.1.1.1.0 c.default.ensures.1.1.1.1.1.1.1.1.1.1.1.1.1.1.1.1.1.1.1.1)
