use Rattle.sequence_threading.proofs.+increase_counts_backwards.Given as goal

abbrev pub decreases-increase_counts_backwards : goal.decreases-increase_counts_backwards
decreases-increase_counts_backwards l = l.left
