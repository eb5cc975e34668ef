use Rattle.std.proofs.Common.{◌≡◌, ◌≤◌, length}
use Rattle.known_answers.proofs.numbers.unpack.Given as goal

abbrev pub invariant-loop-number : goal.invariant-loop-number
invariant-loop-number l = (l.at ≤ length l.bytes) × (length l.bytes ≡ length l.initial.bytes)
