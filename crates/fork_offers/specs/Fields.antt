-- Where each field of an offer stands in its row of four numbers: known here and to the code of this crate. Assumes nothing.
use Rattle.std.specs.Prelude.{ℕ, ◌+◌, ◌*◌, ◌≤◌, not, cond, List, [], ◌∷◌, eqb, length}
use Rattle.laws.specs.Records.{field, put_from}
use Rattle.fork_offers.specs.declared.Offer.{Offer}

-- the table has the row i
abbrev pub HasOffer : List ℕ → ℕ → Type 0
HasOffer out i = i * 4 + 4 ≤ length out

-- the table has the first k rows
abbrev pub HasOffers : List ℕ → ℕ → Type 0
HasOffers out k = k * 4 ≤ length out

-- the number of the edge
abbrev pub offer_edge : List ℕ → ℕ → ℕ
offer_edge out i = field out 4 i 0

abbrev pub offer_count : List ℕ → ℕ → ℕ
offer_count out i = field out 4 i 1

abbrev pub offer_total : List ℕ → ℕ → ℕ
offer_total out i = field out 4 i 2

-- 1 where a tree offers it, else 0
abbrev pub offer_guided : List ℕ → ℕ → ℕ
offer_guided out i = field out 4 i 3

-- the row i as the code's offer, and a table with that offer in the row i
abbrev pub row_of : List ℕ → ℕ → Offer
row_of out i = record { edge = offer_edge out i; count = offer_count out i; total = offer_total out i; guided = not (eqb (offer_guided out i) 0) }

abbrev pub put_row : List ℕ → ℕ → Offer → List ℕ
put_row out i o = put_from out 4 i 0 (o.edge ∷ o.count ∷ o.total ∷ cond o.guided 1 0 ∷ [])
