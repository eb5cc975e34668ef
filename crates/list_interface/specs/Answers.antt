-- The answer of the call for the list: of a refusal, and of a search that has ended. Assumes nothing.
use Rattle.std.specs.Prelude.{ℕ, ◌^◌, ◌<◌, Result, Ok, Err}
use Rattle.refusals.specs.declared.Refusal.{Refusal}
use Rattle.refusals.specs.Numbers.{number}
use Rattle.search_state.specs.declared.Progress.{Progress}
use Rattle.list_interface.specs.declared.ListAnswer.{ListAnswer}

-- a refused answer
abbrev pub refused_answer : ℕ → ListAnswer
refused_answer n = record { refusal = n; paths = 0; pushes = 0; mark = 0 }

-- what C is told of an answer or a refusal
abbrev pub answer_of : Result ListAnswer Refusal → ListAnswer
answer_of (Ok a) = a
answer_of (Err e) = refused_answer (number e)

-- the answer of a search that has ended
abbrev pub found_answer : Progress → ListAnswer
found_answer p = record { refusal = 0; paths = p.closed; pushes = p.pushes; mark = p.mark }

-- its numbers fit the fields of the answer
pub record Told32 (p : Progress) : Type 0 where
  pub closed : p.closed < 2 ^ 32
  pub pushes : p.pushes < 2 ^ 32
  pub mark : p.mark < 2 ^ 32
