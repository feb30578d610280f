-- Whether the verdict is judged, by how the reading of rows ended.
use Rattle.mdb_check.proofs.Words.{Event, HasAccepted, IsAnswer, HasTaken, IsRow, IsSpared, IsStopped, IsTakenWhole, IsYes, Heeding, Levels, List, Meets, Met, Ok, Option, Scope, Some, StandsFor, before_last, last_of, offence_of, refl, sym, ℕ, ◌≡◌}
use Rattle.std.specs.Prelude.{Err, IfOk, IsErrAnd, Result, ◌≢◌}
use Rattle.mdb_words.specs.Refusals.{IsRefusal}
use Rattle.mdb_follow.specs.Runs.{IsReached}
use Rattle.mdb_text.specs.declared.outcome.Outcome.{Outcome}
use Rattle.mdb_text.specs.declared.outcome.Outcome.TheVariants.{No, Yes}
use Rattle.mdb_verdict.proofs.Ends.{stopped_as}
use Rattle.mdb_verdict.proofs.Verdicts.{refused_of}
use Rattle.mdb_verdict.specs.Answers.{Answers}
use Rattle.mdb_verdict.specs.Ending.{HasEnded}
use Rattle.mdb_verdict.specs.declared.fault.RunFault.{RunFault}
use Rattle.mdb_verdict.specs.declared.fault.RunFault.TheVariants.{Write}
use Rattle.mdb_check.specs.Verdict.{IsAnsweredBeside, IsJudgedAs, IsJudgedNo, answer_of}
use Rattle.mdb_check.specs.declared.beside.Beside.{Beside}
use Rattle.mdb_check.specs.declared.beside.Spared.{Spared}
use Rattle.mdb_check.specs.declared.beside.TheConstants.Beside.{NONE}
use Rattle.mdb_check.specs.declared.checking.Checked.{Checked}

-- where all rows were taken it is no no
pub whole_judged : {scope : Scope} (taken : Scope) {readers : Levels} {limit : ℕ}
    {all : List (List (List ℕ))} {heeding : Heeding}
    → IsTakenWhole IsRow (HasTaken scope readers heeding) limit all → (outcome : Outcome)
    → ((rows : List Event) → StandsFor heeding.follower rows → IsYes scope rows outcome)
    → IsJudgedAs taken readers limit all outcome NONE
whole_judged taken ended (Yes report) tells_yes = refl
whole_judged taken ended (No offence) tells_yes =
    absurd (tells_yes ended.rows ended.has.is.follows.stands)

-- a row can't be, and whether that is judged, and whether its time is spared
pub judged_no : (scope : Scope) (readers : Levels) (limit : ℕ) (all : List (List (List ℕ)))
    (heeding : Heeding) (met : Met) (spared : Option Spared)
    → ((rows : List Event) → HasAccepted heeding.follower rows
    → offence_of heeding.follower ≡ Some met.offence → met.last ≡ last_of rows
    → met.earlier ≡ before_last rows
    → IsSpared scope rows met.row met.offence.rule spared)
    → IsStopped IsRow (λ rows row. Meets scope readers heeding rows row met) limit all
    → IsJudgedNo scope readers limit all met.offence
    (record { unjudged = met.unjudged; spared = spared; unfollowed = met.unfollowed })
judged_no scope readers limit all heeding met spared spares ended =
    let at = ended.stops in
    record {
      no = stopped_as ended at.refused.is;
      judged = rw at.unjudged at.refused.judged;
      timed = rw (sym at.there) (spares ended.rows at.refused.accepted at.refused.noted at.last
          at.earlier);
      followed = at.unfollowed;
    }

-- a record isn't taken, or can't be read
pub refused_answer : (scope : Scope) (readers : Levels) (limit : ℕ) (all : List (List (List ℕ)))
    (heeding : Heeding)
    → ((rows : List Event) → HasTaken scope readers heeding rows → IsReached scope rows)
    → (fault : RunFault) → HasEnded IsRow IsRefusal (HasTaken scope readers heeding)
    (Meets scope readers heeding) limit all (Err fault)
    → (answer : Result Checked RunFault) → IsErrAnd answer (λ other. other ≡ fault)
    → IsAnswer scope limit all (answer_of answer)
refused_answer scope readers limit all heeding reaches fault ended (Ok checked) is = absurd is
refused_answer scope readers limit all heeding reaches fault ended (Err other) is =
    refused_of scope limit all (HasTaken scope readers heeding) reaches
    fault ended (Err other) is

-- what holds of a verdict holds of the answer
pub of_answer : (Holds : Outcome → Type 0) (checked : Result Checked RunFault)
    → IfOk checked (λ it. Holds it.outcome) → IfOk (answer_of checked) Holds
of_answer Holds (Ok checked) holds = holds
of_answer Holds (Err fault) holds = holds

-- what holds of each answer that it may be holds of the answer
pub answers_likewise : (Is Holds : Result Outcome RunFault → Type 0) (text : Outcome → List ℕ)
    {before after : Option (List ℕ)} {result : Result Outcome RunFault}
    → ((answer : Result Outcome RunFault) → Is answer → Holds answer)
    → Answers Is text Write before after result → Answers Holds text Write before after result
answers_likewise Is Holds text law answers = record {
  answer = law _ answers.answer;
  cut = λ refused. let cut = answers.cut refused in record {
    outcome = cut.outcome;
    is = law (Ok cut.outcome) cut.is;
    taken = cut.taken;
  };
}

-- where there is no verdict, and the writer didn't fail
pub unanswered : (scope : Scope) (readers : Levels) (limit : ℕ) (all : List (List (List ℕ)))
    (text : Beside → Outcome → List ℕ) {before after : Option (List ℕ)} (fault : RunFault)
    → IsAnswer scope limit all (Err fault) → fault ≢ Write → (result : Result Checked RunFault)
    → IsErrAnd result (λ other. other ≡ fault)
    → (beside : Beside) × IfOk result (λ checked. checked.beside ≡ beside)
    × Answers (IsAnsweredBeside scope readers limit all beside) (text beside) Write before after
    (answer_of result)
unanswered scope readers limit all text fault is other (Ok checked) err = absurd err
unanswered scope readers limit all text fault is other (Err it) err = (
  NONE,
  tt,
  record {
    answer = (rw err is, tt);
    cut = λ same. absurd (other (cc (same, err)));
  },
)
