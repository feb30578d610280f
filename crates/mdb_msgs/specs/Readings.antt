-- The readings of replies.
use Rattle.std.specs.Prelude.{ℕ, ◌==◌, Bool, true, false, List, ◌∷◌}
use Rattle.mdb_msgs.specs.declared.reading.Ids.{Ids}
use Rattle.mdb_msgs.specs.declared.reading.Ids.TheVariants.{Bare, ByNext, Full}
use Rattle.mdb_msgs.specs.declared.reading.Reading.{Reading}

-- the reading of the base profile
abbrev pub base : Reading
base = record { is_long = false; ids = Bare }

-- the two readings of the extended profile where no feature level is known: as of level 1, and
-- where bytes have a fault in that as of levels 2 and 3
abbrev pub early : Reading
early = record { is_long = false; ids = Full }

abbrev pub early_long : Reading
early_long = record { is_long = true; ids = Full }

-- whether bytes are read as the extended profile has them
abbrev pub may_have_options : Ids → Bool
may_have_options Bare = false
may_have_options _ = true

abbrev pub is_extended : Reading → Bool
is_extended reading = may_have_options reading.ids

-- whether an identification may have options that begin with this byte, the one behind its first 30
abbrev pub allows : Ids → ℕ → Bool
allows Bare next = false
allows ByNext next = next == 0
allows Full next = true

-- whether it has options, by the bytes behind its first 30
abbrev pub takes_options : Ids → List ℕ → Bool
takes_options ids (a ∷ b ∷ c ∷ d ∷ rest) = allows ids a
takes_options ids _ = false
