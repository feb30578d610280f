-- What is answered of rows that are fed in slices. A slice may be a single row, or none.
use Rattle.std.specs.Prelude.{◌⊎◌, ◌++◌, List, [], ◌∷◌, Result, Ok, Err}
use Rattle.mdb_words.specs.declared.event.Event.{Event}
use Rattle.mdb_follow.specs.declared.offence.Offence.{Offence}
use Rattle.mdb_follow.specs.declared.report.Report.{Report}
use Rattle.mdb_follow.specs.FirstOffences.{HasOffence}
use Rattle.mdb_follow.specs.Report.{IsReport}
use Rattle.mdb_follow.specs.Runs.{IsReached}
use Rattle.mdb_bus.specs.declared.scope.Scope.{Scope}

-- the rows of the slices in order
abbrev pub joined : List (List Event) → List Event
joined [] = []
joined (slice ∷ slices) = slice ++ joined slices

-- The answer to rows after earlier ones: the report on all, or the offence of one of these rows.
abbrev pub AnswersRows : Scope → List Event → List Event → Result Report Offence → Type 0
AnswersRows scope earlier rows (Ok report) = IsReport scope (earlier ++ rows) report
AnswersRows scope earlier rows (Err offence) = HasOffence scope earlier rows offence

-- The answer to slices that are fed one by one after earlier rows, as `feed_all` and `report` have
-- it for each call: the offence of the first slice that has one, and where none has, the report
-- after the last. Each slice comes after the earlier rows and all slices before it, which are
-- reached.
abbrev pub AnswersInSlices : Scope → List Event → List (List Event) → Result Report Offence → Type 0
AnswersInSlices scope earlier [] (Ok report) = IsReport scope earlier report
AnswersInSlices scope earlier [] (Err offence) = ⊥
AnswersInSlices scope earlier (slice ∷ slices) (Ok report) =
    IsReached scope (earlier ++ slice) × AnswersInSlices scope (earlier ++ slice) slices (Ok report)
AnswersInSlices scope earlier (slice ∷ slices) (Err offence) =
    HasOffence scope earlier slice offence
    ⊎ (IsReached scope (earlier ++ slice)
    × AnswersInSlices scope (earlier ++ slice) slices (Err offence))
