-- What standard error is told where there is an answer.
use Rattle.std.proofs.Common.{refl, subst, ◌≡◌, ℕ, List, Option, Result, Ok, Err}
use Rattle.std.proofs.lemmas.Option.{IfSome_then}
use Rattle.std.specs.Prelude.{IfOk, IfSome}
use Rattle.csv.specs.Reading.{default_config, records, strip_bom}
use Rattle.mdb_bus.specs.declared.levels.Levels.{Levels}
use Rattle.mdb_bus.specs.declared.scope.Scope.{Scope}
use Rattle.mdb_follow.specs.declared.follower.TheConstants.{ROWS_MAX}
use Rattle.mdb_text.specs.declared.outcome.Outcome.{Outcome}
use Rattle.mdb_text.specs.declared.outcome.Outcome.TheVariants.{No, Yes}
use Rattle.mdb_verdict.specs.declared.fault.RunFault.{RunFault}
use Rattle.mdb_verdict.specs.Answers.{Answers, Leaves}
use Rattle.mdb_verdict.specs.declared.fault.RunFault.TheVariants.{Write}
use Rattle.mdb_check.specs.Verdict.{IsJudgedAs, answer_of, beside_of}
use Rattle.mdb_check.specs.declared.beside.Beside.{Beside}
use Rattle.mdb_check.specs.declared.checking.Checked.{Checked}
use Rattle.mdbcheck_run.specs.Aside.{IsAsideOfCheck, aside_of, aside_on}
use Rattle.mdbcheck_run.specs.Program.{SaysAnswered, status_of}
use Rattle.mdbcheck_run.proofs.Status.{is_write, says_answered, says_likewise}

module _ (scope : Scope) (readers : Levels) (text : Option (List ℕ)) (status : ℕ) where
  -- what a verdict tells aside
  told : (outcome : Outcome) (beside : Beside)
      → status ≡ status_of {Fault = RunFault} (Ok outcome)
      → IfSome text (λ bytes. IsJudgedAs scope readers ROWS_MAX
      (records default_config (strip_bom bytes)) outcome beside)
      → IsAsideOfCheck scope readers text status (aside_on scope.begins outcome beside)
  told (No offence) beside is judged = record {
    possible = λ e. absurd (cc (is, e));
    impossible = λ e. IfSome_then text judged (λ bytes has. (offence, beside, has, refl));
  }
  told (Yes report) beside is judged =
      record { possible = λ e. refl; impossible = λ e. absurd (cc (is, e)) }

  -- what an answer of `check` tells aside
  pub aside_of_check : (answer : Result Checked RunFault) → status ≡ status_of (answer_of answer)
      → IfSome text (λ bytes. IfOk answer (λ checked. IsJudgedAs scope readers ROWS_MAX
      (records default_config (strip_bom bytes)) checked.outcome checked.beside))
      → IsAsideOfCheck scope readers text status (aside_of scope.begins answer)
  aside_of_check (Ok checked) is judged =
      told checked.outcome checked.beside is judged
  aside_of_check (Err fault) is judged =
      record { possible = λ e. refl; impossible = λ e. absurd (cc (is, e)) }

-- what a writer has of a verdict, with what is said beside it
leaves_beside : {W : Type 0} (text : Beside → Outcome → List ℕ) (broken : RunFault)
    (contents : W → Option (List ℕ)) (old new : W) (answer : Result Checked RunFault)
    (beside : Beside) → IfOk answer (λ checked. checked.beside ≡ beside)
    → Leaves contents (text (beside_of answer)) broken old new (answer_of answer)
    → Leaves contents (text beside) broken old new (answer_of answer)
leaves_beside text broken contents old new (Ok checked) beside same leaves =
    subst (λ b. Leaves contents (text b) broken old new (Ok checked.outcome)) same leaves
leaves_beside text broken contents old new (Err fault) beside same leaves =
    record { written = tt; nothing_written = leaves.nothing_written }

-- what the status of a verdict says, with what is said beside it
pub says_beside : {W : Type 0} (Is : Beside → Result Outcome RunFault → Type 0)
    (text : Beside → Outcome → List ℕ) (contents : W → Option (List ℕ)) (old new : W)
    (answer : Result Checked RunFault)
    → ((beside : Beside) × IfOk answer (λ checked. checked.beside ≡ beside)
    × Answers (Is beside) (text beside) Write (contents old) (contents new) (answer_of answer))
    → Leaves contents (text (beside_of answer)) Write old new (answer_of answer)
    → (beside : Beside) × SaysAnswered (Is beside) (text beside) (contents old) (contents new)
    (status_of (answer_of answer))
says_beside Is text contents old new answer answers leaves = (
  answers.0,
  says_answered (Is answers.0) (text answers.0) Write is_write contents old new (answer_of answer)
      answers.2
      (leaves_beside text Write contents old new answer answers.0 answers.1 leaves),
)

-- and so says each thing that holds of the verdict
pub beside_likewise : (Is : Beside → Result Outcome RunFault → Type 0)
    (Holds : Result Outcome RunFault → Type 0) (text : Beside → Outcome → List ℕ)
    {before after : Option (List ℕ)} {status : ℕ}
    → ((beside : Beside) (outcome : Outcome) → Is beside (Ok outcome) → Holds (Ok outcome))
    → ((beside : Beside) × SaysAnswered (Is beside) (text beside) before after status)
    → (beside : Beside) × SaysAnswered Holds (text beside) before after status
beside_likewise Is Holds text law says =
    (says.0, says_likewise (Is says.0) Holds (law says.0) says.1)
