use Rattle.paths_output.specs.Listing.{Listing}
use Rattle.paths_output.proofs.listing.write_list.Given as goal

abbrev pub invariant-loop-i : goal.invariant-loop-i
invariant-loop-i l = Listing l.scores l.closings l.edges l.bases l.k l.paths l.initial.out l.out l.initial.at l.at l.i
