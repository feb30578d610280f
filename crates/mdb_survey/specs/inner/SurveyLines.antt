-- How the lines of a survey come about, row by row, in whatever form. This file serves private
-- functions and proofs: no public clause cites it.
use Rattle.std.specs.Prelude.{◌≡◌, ℕ, List, [], ◌∷◌, ◌++◌, length, Result, IfErr, IfOk, OnOk}
use Rattle.mdb_words.specs.declared.event.Event.{Event}
use Rattle.mdb_bus.specs.declared.scope.Scope.{Scope}
use Rattle.mdb_surveyor.specs.declared.stretch.Ended.{Ended}
use Rattle.mdb_surveyor.specs.declared.stretch.Stretch.{Stretch}
use Rattle.mdb_surveyor.specs.declared.surveyor.Surveyor.{Surveyor}
use Rattle.mdb_surveyor.specs.Stretches.{IsSurvey}
use Rattle.mdb_surveyor.specs.Summaries.{summary_of}
use Rattle.mdb_surveyor.specs.Surveyor.{StandsFor, rows_of}
use Rattle.mdb_verdict.specs.declared.fault.RunFault.{RunFault}
use Rattle.mdb_verdict.specs.declared.fault.RunFault.TheVariants.{BadRow, TooLong, Read, Write, Memory}
use Rattle.mdb_verdict.specs.Telling.{IsNotTaken}
use Rattle.mdb_writing.specs.Answers.{IsSent}
use Rattle.mdb_writing.specs.Output.{Breaks, Output, Puts}
use Rattle.mdb_surveyor.specs.declared.summary.Summary.{Summary}
use Rattle.mdb_surveyor.specs.Lines.{LineForm, lines_of}
use Rattle.mdb_survey.specs.Survey.{IsSurveying}

-- A surveyor stands for the rows so far, and the lines of their faults, each with the stretch that
-- it ended, are on their way.
pub record HasSurveyed (form : LineForm) (scope : Scope) (surveyor : Surveyor)
    (before after : Output) (rows : List Event) : Type 0 where
  pub ended : List Ended
  pub stands : StandsFor surveyor scope rows ended
  pub counted : rows_of surveyor ≡ length rows
  pub written : Puts before after (lines_of form ended)

-- The first of some rows have a survey with these faults.
pub record LeadInto (scope : Scope) (rows : List Event) (ended : List Ended) : Type 0 where
  pub front : List Event
  pub rest : List Event
  pub parts : rows ≡ front ++ rest
  pub last : Stretch
  pub survey : IsSurvey scope front ended last

-- The row after these ended a stretch, and the lines of that and of the fault weren't taken: with
-- want of memory those before them are on their way, and where the writer failed it took a front of
-- all.
abbrev pub HasStopped : LineForm → Scope → Output → Output → List Event → Event → RunFault → Type 0
HasStopped form scope before after rows row (BadRow number fault) = ⊥
HasStopped form scope before after rows row TooLong = ⊥
HasStopped form scope before after rows row Read = ⊥
HasStopped form scope before after rows row Write = (ended : List Ended)
    × LeadInto scope (rows ++ row ∷ []) ended × Breaks before after (lines_of form ended)
HasStopped form scope before after rows row Memory =
    (ended : List Ended) × LeadInto scope rows ended × Puts before after (lines_of form ended)

-- The lines of the stretch that runs are on their way, or weren't taken.
pub record HasAddedLast (form : LineForm) (surveyor : Surveyor) (before after : Output)
    (answer : Result Unit RunFault) : Type 0 where
  pub last : Stretch
  pub survey : (scope : Scope) (rows : List Event) (ended : List Ended)
      → StandsFor surveyor scope rows ended → IsSurvey scope rows ended last
  pub added : OnOk answer (Puts before after (form.stretch last))
  pub refused : IfErr answer (λ fault. IsNotTaken fault before after (form.stretch last))

-- The lines of the last stretch and of the whole are on their way, and the whole is answered; or
-- they weren't taken.
pub record HasAddedEnd (form : LineForm) (surveyor : Surveyor) (before after : Output)
    (answer : Result Summary RunFault) : Type 0 where
  pub last : Stretch
  pub summary : Summary
  pub survey : (scope : Scope) (rows : List Event) (ended : List Ended)
      → StandsFor surveyor scope rows ended
      → IsSurvey scope rows ended last × (summary ≡ summary_of ended last)
  pub told : IfOk answer (λ told. told ≡ summary)
  pub added : OnOk answer (Puts before after (form.stretch last ++ form.summary summary))
  pub refused : IfErr answer (λ fault. IsNotTaken fault before after
      (form.stretch last ++ form.summary summary))

-- what `SurveysIn` says, where some of the text may still be on its way
abbrev pub PutsSurveying : LineForm → Scope → List (List (List ℕ)) → ℕ → Output → Output
    → Result Summary RunFault → Type 0
PutsSurveying form scope records read = IsSent (IsSurveying form scope records read) Write
