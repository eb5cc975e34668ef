use Rattle.kmer_threading.specs.Indexes.{keeps-stop, keeps-next}
use Rattle.sequence_threading.specs.Starts.{start-full, start-backs, start-came}
use Rattle.sequence_threading.proofs.start_sequence.Goals as goal

pub returns-in_default : goal.returns-in_default
returns-in_default c = ((start-full c.requires.0 _ _ _ _ _ c.get_or_create_kmer_vertex-r.ensures.0 c.in_default.is), keeps-stop _ _ _ _ _ _ _ c.in_default.is)

pub increase_counts_backwards-requires : goal.increase_counts_backwards-requires
increase_counts_backwards-requires c = start-backs c.requires.0 _ _ _ c.get_or_create_kmer_vertex-r.ensures.0 c.in-Ok.is

pub returns : goal.returns
returns c = ((start-came c.requires.0 _ _ _ c.get_or_create_kmer_vertex-r.ensures.0 c.in-Ok.is _ c.increase_counts_backwards.auto.edges c.increase_counts_backwards.ensures), keeps-next _ _ _ _ _ _ _ c.get_or_create_kmer_vertex-r.ensures.1 c.in-Ok.is)
