use Rattle.paths_output.proofs.writing.+write_decimal.Given as goal

abbrev pub decreases-write_decimal : goal.decreases-write_decimal
decreases-write_decimal a = a.n
