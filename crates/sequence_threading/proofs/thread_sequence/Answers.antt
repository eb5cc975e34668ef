use Rattle.std.proofs.Common.{not, eqb, ◌∙◌}
use Rattle.kmer_threading.specs.Indexes.{keeps-stop, keeps-next}
use Rattle.sequence_threading.specs.Stretches.{start-stop, start-next, left-extends, left-stop, left-next, left_end}
use Rattle.sequence_threading.proofs.thread_sequence.Goals as goal

pub returns-in_default : goal.returns-in_default
returns-in_default c = (start-stop c.requires.0 (not (eqb c.args.mark 0)) c.args.origin.sequence _ _ _ _ _ c.start_sequence-r0.ensures.0 c.in_default.is, keeps-stop _ _ _ _ _ _ _ c.in_default.is)

pub extend_chain_by_one-r-requires : goal.extend_chain_by_one-r-requires
extend_chain_by_one-r-requires c = (
  left-extends c.requires.0 (not (eqb c.args.mark 0)) c.args.origin.sequence (start-next c.requires.0 (not (eqb c.args.mark 0)) c.args.origin.sequence _ _ _ _ c.start_sequence-r0.ensures.0 c.in-Ok.is) c.loop-j.invariant.0 c.loop-j-test.true,
  c.loop-j.invariant.1,
)

pub returns-in_default-r : goal.returns-in_default-r
returns-in_default-r c = (
  left-stop c.requires.0 (not (eqb c.args.mark 0)) c.args.origin.sequence (start-next c.requires.0 (not (eqb c.args.mark 0)) c.args.origin.sequence _ _ _ _ c.start_sequence-r0.ensures.0 c.in-Ok.is) c.loop-j.invariant.0 c.loop-j-test.true _ _ _ _ _ c.extend_chain_by_one-r.ensures.0 c.in_default-r.is,
  keeps-stop _ _ _ _ _ _ _ c.in_default-r.is,
)

pub loop-j-preserved : goal.loop-j-preserved
loop-j-preserved c = (
  left-next c.requires.0 (not (eqb c.args.mark 0)) c.args.origin.sequence (start-next c.requires.0 (not (eqb c.args.mark 0)) c.args.origin.sequence _ _ _ _ c.start_sequence-r0.ensures.0 c.in-Ok.is) c.loop-j.invariant.0 c.loop-j-test.true _ _ _ _ c.extend_chain_by_one-r.ensures.0 c.in-Ok-r.is c.extend_chain_by_one-r.auto.vertices c.extend_chain_by_one-r.auto.edges,
  keeps-next _ _ _ _ _ _ _ c.extend_chain_by_one-r.ensures.1 c.in-Ok-r.is,
  c.extend_chain_by_one-r.auto.index ∙ c.loop-j.invariant.2,
)

pub returns : goal.returns
returns c = (left_end c.requires.0 (not (eqb c.args.mark 0)) c.args.origin.sequence (start-next c.requires.0 (not (eqb c.args.mark 0)) c.args.origin.sequence _ _ _ _ c.start_sequence-r0.ensures.0 c.in-Ok.is) c.loop-j.invariant.0 c.loop-j-test.false, c.loop-j.invariant.1)
