use Rattle.std.proofs.Common.{◌≡◌, ◌≤◌, length}
use Rattle.known_answers.proofs.numbers.read_numbers.Given as goal

abbrev pub invariant-loop-byte : goal.invariant-loop-byte
invariant-loop-byte l = (l.scan.count ≤ length l.numbers) × (length l.numbers ≡ length l.initial.numbers)
