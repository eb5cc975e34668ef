use Rattle.samples.specs.Handed.{text_of}
use Rattle.assembly.specs.Fields.{slot_of}
use Rattle.assembly.specs.Store.{kmers_of}
use Rattle.assembly.specs.Kmers.{part}
use Rattle.graph_kmers.specs.Index.{size_of, Walks}
use Rattle.graph_kmers.proofs.find_in_bucket.Given as goal

abbrev pub invariant-loop-next : goal.invariant-loop-next
invariant-loop-next l = Walks l.k (size_of l.index) (kmers_of l.k (text_of l.text) l.vertices l.n) (part l.k (text_of l.text) l.q) (slot_of l.next)

abbrev pub decreases-loop-next : goal.decreases-loop-next
decreases-loop-next l = slot_of l.next
