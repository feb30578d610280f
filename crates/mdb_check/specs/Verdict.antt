-- What a verdict says beside a no: of one that isn't judged, of one that rests on times alone, and
-- of one at a row that isn't followed.
use Rattle.std.specs.Prelude.{◌≡◌, ℕ, List, [], ◌∷◌, ◌++◌, Result, Ok, Err, IfOk, ⊤}
use Rattle.mdb_bus.specs.declared.levels.Levels.{Levels}
use Rattle.mdb_bus.specs.declared.scope.Scope.{Scope}
use Rattle.mdb_follow.specs.declared.offence.Offence.{Offence}
use Rattle.mdb_text.specs.declared.outcome.Outcome.{Outcome}
use Rattle.mdb_text.specs.declared.outcome.Outcome.TheVariants.{Yes, No}
use Rattle.mdb_verdict.specs.declared.fault.RunFault.{RunFault}
use Rattle.mdb_verdict.specs.Verdict.{IsAnswer, IsImpossible}
use Rattle.mdb_check.specs.declared.beside.Beside.{Beside}
use Rattle.mdb_check.specs.declared.beside.TheConstants.Beside.{NONE}
use Rattle.mdb_check.specs.declared.checking.Checked.{Checked}
use Rattle.mdb_check.specs.Spared.{IsSpared}
use Rattle.mdb_check.specs.Unfollowed.{unfollowed}
use Rattle.mdb_check.specs.Unjudged.{IsJudged, last_begun}

-- The no on the records of a text, and beside it: the reader if it isn't judged, how long its row
-- takes if the extended profile's times spare it, and the device if its row isn't followed.
pub record IsJudgedNo (scope : Scope) (readers : Levels) (limit : ℕ)
    (records : List (List (List ℕ))) (offence : Offence) (beside : Beside) : Type 0 where
  pub no : IsImpossible scope limit records offence
  pub judged : IsJudged scope readers no.rows no.row offence beside.unjudged
  pub timed : IsSpared scope no.rows no.row offence.rule beside.spared
  pub followed : beside.unfollowed ≡ unfollowed offence.rule offence.blame
      (last_begun (no.rows ++ no.row ∷ []))

-- the same of a verdict: beside a yes nothing is said
abbrev pub IsJudgedAs : Scope → Levels → ℕ → List (List (List ℕ)) → Outcome → Beside → Type 0
IsJudgedAs scope readers limit records (No offence) beside =
    IsJudgedNo scope readers limit records offence beside
IsJudgedAs scope readers limit records (Yes report) beside = beside ≡ NONE

-- the verdict of what was checked, or why there is none
abbrev pub answer_of : Result Checked RunFault → Result Outcome RunFault
answer_of (Ok checked) = Ok checked.outcome
answer_of (Err fault) = Err fault

-- what is said beside the verdict of what was checked
abbrev pub beside_of : Result Checked RunFault → Beside
beside_of (Ok checked) = checked.beside
beside_of (Err fault) = NONE

-- the answer to the records of a text, where this is said beside it
abbrev pub IsAnsweredBeside : Scope → Levels → ℕ → List (List (List ℕ)) → Beside
    → Result Outcome RunFault → Type 0
IsAnsweredBeside scope readers limit records beside result =
    IsAnswer scope limit records result
    × IfOk result (λ outcome. IsJudgedAs scope readers limit records outcome beside)

-- a verdict is a no
abbrev pub IsNo : Outcome → Type 0
IsNo (No offence) = ⊤
IsNo (Yes report) = ⊥
