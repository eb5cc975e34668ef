-- Demand 3 in words over the call for the list: what is promised of the rows that a caller reads off the output slices of an accepted call. Assumes nothing.
use Rattle.std.specs.Prelude.{◌≡◌, ℕ, ◌≤◌, List, Float}
use Rattle.laws.specs.ListLaws.{All}
use Rattle.definition.specs.Limits.{Input}
use Rattle.definition.specs.Listing.{Row}
use Rattle.definition.specs.Calls.{ListSlices, ListAnswer, list_call}
use Rattle.definition.specs.Promises.{Spelled, NoneOutscores}

-- ---- the promises

-- Demand 3, first half: every path "begins with the reference's first k bases and ends with its last k"; every edge's k + 1 bases are those that the origin
-- call hands back for its origin, in the reference or inside one usable stretch; and "no path outscores the one above it".
abbrev pub Promised : Input → List (Row Float) → Type 0
Promised i rows = All (Spelled i.sample) rows × NoneOutscores rows

-- what an accepted answer tells stays within what was asked and allowed; the waiting mark lies between the last two
pub record ToldWithin (i : Input) (a : ListAnswer) : Type 0 where
  pub paths-fit : a.paths ≤ i.asked
  pub pushes-fit : a.pushes ≤ i.search_maxima.pushes
  pub waiting-fit : a.longest ≤ a.pushes

-- ---- a program

-- A program's call: the refusal's number and the paths that it answers, and its output slices at exit, are the definition's, by its contract.
pub record Meets (i : Input) (workspace lent : List ℕ) (old : ListSlices) (number paths : ℕ) (new : ListSlices) : Type 0 where
  pub refusal_is : number ≡ (list_call i workspace lent old).answer.refusal
  pub paths-are : paths ≡ (list_call i workspace lent old).answer.paths
  pub slices-are : new ≡ (list_call i workspace lent old).slices
