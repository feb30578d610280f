-- What the statuses of the program say.
use Rattle.std.proofs.Common.{arith, refl, ap, sym, ◌∙◌, inl, inr, true, false, ◌≡◌}
use Rattle.std.proofs.Common.{◌≢◌, ◌⊎◌, ◌<◌, ◌==◌, ℕ, Bool, List, [], Option, Some, None, Result, Ok, Err}
use Rattle.std.proofs.Common.{IfSome, IsErr, length}
use Rattle.std.proofs.lemmas.Bool.{eqb-false, eqb-true}
use Rattle.std.specs.Prelude.{if◌then◌else◌}
use Rattle.std.proofs.lemmas.List.{append-nil}
use Rattle.std.proofs.lemmas.Option.{IfSome_then}
use Rattle.std.specs.Io.KnownBytes.{Appends}
use Rattle.csv.specs.Reading.{default_config, records, strip_bom}
use Rattle.mdb_bus.specs.declared.fault.LinkFault.{LinkFault}
use Rattle.mdb_bus.specs.declared.levels.Levels.{Levels}
use Rattle.mdb_follow.specs.declared.goal.Goal.{Goal}
use Rattle.mdb_text.specs.declared.outcome.Outcome.{Outcome}
use Rattle.mdb_text.specs.declared.outcome.Outcome.TheVariants.{Yes, No}
use Rattle.mdb_verdict.specs.declared.fault.RunFault.{RunFault}
use Rattle.mdb_verdict.specs.declared.fault.RunFault.TheVariants.{Write}
use Rattle.mdb_explain.specs.declared.fault.MarkedFault.{MarkedFault}
use Rattle.mdb_explain.specs.declared.fault.MarkedFault.TheVariants as marked
use Rattle.mdb_explain.specs.Explain.{IsExplained, LeavesNo}
use Rattle.mdb_text.specs.declared.form.Form.{Form}
use Rattle.mdbcheck_run.specs.Program.{Says, SaysAnswered, SaysExplained, SaysOf, SaysShown}
use Rattle.mdbcheck_run.specs.Program.{SaysSurveyed, show_status_of, status_of, survey_status_of}
use Rattle.mdb_verdict.specs.Answers.{Answers, Leaves}
use Rattle.mdb_show.specs.Show.{IsShowingIn, ShowsIn, lines_in}
use Rattle.mdb_survey.specs.Survey.{IsSurveyedWhole, IsSurveying, SurveysIn, survey_lines_in}
use Rattle.mdb_surveyor.specs.declared.summary.Summary.{Summary}
use Rattle.mdb_verdict.specs.Verdict.{IsNoYes}
use Rattle.mdbcheck_run.specs.declared.task.Task.{Task}
use Rattle.mdbcheck_run.specs.declared.task.Task.TheVariants.{Check}
use Rattle.mdb_verdict.specs.declared.verdict.TheConstants.{BYTES_MAX}
use Rattle.mdb_writing.specs.Answers.{IsCutShort}
use Rattle.mdb_verdict.specs.Telling.{Tells}
use Rattle.mdb_bus.specs.declared.scope.Scope.{Scope}
use Rattle.mdb_bus.specs.Scopes.{profile_of}

-- Whether a fault is that of the writer.
pub is_write : (fault : RunFault) → (fault ≡ Write) ⊎ (fault ≢ Write)
is_write Write = inl refl
is_write fault = inr (λ same. absurd (cc))

pub is_marked_write : (fault : MarkedFault)
    → (fault ≡ marked.Run Write) ⊎ (fault ≢ marked.Run Write)
is_marked_write (marked.Run Write) = inl refl
is_marked_write fault = inr (λ same. absurd (cc))

-- What the status of an answer says.
pub says_answered : {W Fault : Type 0} (IsAnswer : Result Outcome Fault → Type 0)
    (text : Outcome → List ℕ) (broken : Fault)
    → ((fault : Fault) → (fault ≡ broken) ⊎ (fault ≢ broken))
    → (contents : W → Option (List ℕ)) (old new : W) (answer : Result Outcome Fault)
    → Answers IsAnswer text broken (contents old) (contents new) answer
    → Leaves contents text broken old new answer
    → SaysAnswered IsAnswer text (contents old) (contents new) (status_of answer)
says_answered IsAnswer text broken which contents old new (Err fault) is leaves = record {
  possible = λ e. absurd (cc);
  impossible = λ e. absurd (cc);
  unanswered = λ e. elim (which fault) [
    | inl same ↦ inr (is.cut (ap Err same))
    | inr other ↦ inl (ap contents (leaves.nothing_written other))
  ];
}
says_answered IsAnswer text broken which contents old new (Ok (Yes report)) is leaves =
    search arith
says_answered IsAnswer text broken which contents old new (Ok (No offence)) is leaves =
    search arith

-- What is said of each answer that it may be is said by the status too.
pub says_likewise : (Is Holds : Result Outcome RunFault → Type 0) {text : Outcome → List ℕ}
    {before after : Option (List ℕ)} {status : ℕ}
    → ((outcome : Outcome) → Is (Ok outcome) → Holds (Ok outcome))
    → SaysAnswered Is text before after status → SaysAnswered Holds text before after status
says_likewise Is Holds law says = record {
  possible = λ e. let it = says.possible e in (it.0, law (Yes it.0) it.1, it.2);
  impossible = λ e. let it = says.impossible e in (it.0, law (No it.0) it.1, it.2);
  unanswered = λ e. elim (says.unanswered e) [
    | inl same ↦ inl same
    | inr cut ↦ inr (record {
      outcome = cut.outcome;
      is = law cut.outcome cut.is;
      taken = cut.taken;
    })
  ];
}

-- the same of an explanation
pub says_explained : (scope : Scope) (goal : Goal) {W : Type 0} (contents : W → Option (List ℕ))
    (all : List (List (List ℕ))) (old new : W) (answer : Result Outcome RunFault)
    → IsExplained scope goal all (contents old) (contents new) answer
    → LeavesNo contents scope old new answer
    → SaysExplained scope goal all (contents old) (contents new) (status_of answer)
says_explained scope goal contents all old new (Err fault) is leaves = record {
  possible = λ e. absurd (cc);
  impossible = λ e. absurd (cc);
  unanswered = λ e. elim (is_write fault) [
    | inl same ↦ inr (is.cut (ap Err same))
    | inr other ↦ inl (ap contents (leaves.nothing_written other))
  ];
}
says_explained scope goal contents all old new (Ok (Yes report)) is leaves = search arith
says_explained scope goal contents all old new (Ok (No offence)) is leaves = search arith

-- the writer took a front of a text, whether that was written whole or not
cut_short : {Answer : Type 0} (Is : Result Answer RunFault → List ℕ → Type 0)
    {before after : Option (List ℕ)} {answer : Result Answer RunFault}
    → Tells Is before after answer → IsCutShort Is before after
cut_short Is {answer = answer} (inl (text, is, written)) = record {
  answer = answer;
  text = text;
  is = is;
  taken = record { front = text; rest = []; parts = sym (append-nil text); grown = written };
}
cut_short Is (inr cut) = cut.1

pub says_shown : (scope : Scope) (form : Form) (all : List (List (List ℕ)))
    (before after : Option (List ℕ)) (answer : Result (Option LinkFault) RunFault)
    → ShowsIn (lines_in form) scope all before after answer
    → SaysShown scope form all before after (show_status_of answer)
says_shown scope form all before after (Err fault) shows =
    let cut = cut_short (IsShowingIn (lines_in form) scope all) shows in search arith
says_shown scope form all before after (Ok None) (inl shows) = search arith
says_shown scope form all before after (Ok (Some fault)) (inl shows) = search arith
says_shown scope form all before after (Ok showing) (inr cut) = absurd (cc)

-- What is said by the status of a survey that came to its end, by whether it has no fault.
says_whole : (scope : Scope) (form : Form) (all : List (List (List ℕ)))
    (before after : Option (List ℕ)) (summary : Summary) (text : List ℕ) (none : Bool)
    → (summary.faults.all == 0) ≡ none
    → IsSurveyedWhole (survey_lines_in form (profile_of scope.begins)) scope all summary text
    → Appends before after text
    → SaysSurveyed scope form all before after (if none then 0 else 1)
says_whole scope form all before after summary text true is whole written =
    search (arith, eqb-true summary.faults.all 0 is)
says_whole scope form all before after summary text false is whole written =
    search (arith, eqb-false summary.faults.all 0 is)

pub says_surveyed : (scope : Scope) (form : Form) (all : List (List (List ℕ))) (read : ℕ)
    (before after : Option (List ℕ)) (answer : Result Summary RunFault)
    → SurveysIn (survey_lines_in form (profile_of scope.begins)) scope all read before after answer
    → SaysSurveyed scope form all before after (survey_status_of answer)
says_surveyed scope form all read before after (Err fault) surveys =
    let lines = survey_lines_in form (profile_of scope.begins) in
    let cut = cut_short (IsSurveying lines scope all read) surveys in search arith
says_surveyed scope form all read before after (Ok summary) (inl (text, whole, written)) =
    says_whole scope form all before after summary text (summary.faults.all == 0) refl whole written
says_surveyed scope form all read before after (Ok summary) (inr cut) = absurd (cc)

-- a text that isn't one of a yes has another status, and so has one that isn't shown or surveyed
-- whole
pub not_yes : {Fault : Type 0} (answer : Result Outcome Fault) → IsNoYes answer
    → status_of answer ≢ 0
not_yes (Ok (Yes report)) none = absurd none
not_yes answer none = search arith

pub not_whole : (answer : Result (Option LinkFault) RunFault) → answer ≢ Ok None
    → show_status_of answer ≢ 0
not_whole (Ok None) other = absurd (other refl)
not_whole answer other = search arith

pub not_surveyed : (answer : Result Summary RunFault) → IsErr answer → survey_status_of answer ≢ 0
not_surveyed (Ok summary) err = absurd (cc)
not_surveyed (Err fault) err = search arith

-- What is said of a text that is read: each status says it of the records, and where the text is
-- longer than the limit, it isn't 0.
pub says_of : {Over : Type 0} (Says : List (List (List ℕ)) → ℕ → Type 0)
    (known : Option (List ℕ)) (wanted status : ℕ) → status ≡ wanted
    → IfSome known (λ text. Says (records default_config (strip_bom text)) wanted)
    → IfSome known (λ text. BYTES_MAX < length text → Over) → (Over → wanted ≢ 0)
    → SaysOf Says known status
says_of Says known wanted status same says over other = record {
  says = rw same says;
  whole = IfSome_then known over (λ text is long yes. other (is long) (sym same ∙ yes));
}

-- What is said of a text that `check` reads is said of its task.
pub says_checked : (task : Task) (scope : Scope) (readers : Levels) (form : Form)
    (known before after : Option (List ℕ)) (status : ℕ) → task ≡ Check scope readers form
    → IfSome known (λ text. Says (Check scope readers form)
    (records default_config (strip_bom text)) before after status)
    → IfSome known (λ text. Says task (records default_config (strip_bom text)) before after status)
says_checked task scope readers form known before after status is says = rw is says
