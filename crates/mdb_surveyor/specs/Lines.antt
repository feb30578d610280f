-- The lines that are written of a survey, in whatever form: those of each stretch, of each fault,
-- and at the end those of the whole (this profile).
use Rattle.std.specs.Prelude.{ℕ, List, [], ◌∷◌, ◌++◌}
use Rattle.mdb_follow.specs.declared.offence.Offence.{Offence}
use Rattle.mdb_surveyor.specs.declared.stretch.Ended.{Ended}
use Rattle.mdb_surveyor.specs.declared.stretch.Stretch.{Stretch}
use Rattle.mdb_surveyor.specs.declared.summary.Summary.{Summary}

-- A form of the lines. A stretch without a row has none.
pub record LineForm : Type 0 where
  pub stretch : Stretch → List ℕ
  pub fault : Offence → List ℕ
  pub summary : Summary → List ℕ

-- the lines of a stretch and of the fault that ended it
abbrev pub ended_lines : LineForm → Ended → List ℕ
ended_lines form ended = form.stretch ended.stretch ++ form.fault ended.fault

-- those of faults, each with the stretch that it ended, the oldest first
abbrev pub lines_of : LineForm → List Ended → List ℕ
lines_of form [] = []
lines_of form (ended ∷ earlier) = lines_of form earlier ++ ended_lines form ended
