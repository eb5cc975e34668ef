use Rattle.paths_output.proofs.writing.+write_hexadecimal.Given as goal

abbrev pub decreases-write_hexadecimal : goal.decreases-write_hexadecimal
decreases-write_hexadecimal a = a.digits
