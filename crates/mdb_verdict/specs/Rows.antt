-- Which events the records of a text are.
use Rattle.std.specs.Prelude.{List, [], ◌∷◌, ℕ, ⊤}
use Rattle.mdb_words.specs.declared.event.Event.{Event}
use Rattle.mdb_words.specs.Row.{IsRow}

-- each record is a row, and these are their events
abbrev pub AreRows : List (List (List ℕ)) → List Event → Type 0
AreRows [] [] = ⊤
AreRows (fields ∷ records) (event ∷ rows) = IsRow fields event × AreRows records rows
AreRows [] (event ∷ rows) = ⊥
AreRows (fields ∷ records) [] = ⊥
