-- What is answered and written of rows that are kept, and the lines that are written.
use Rattle.mdb_explain.proofs.Words.{BYTES_MAX, Err, Event, Goal, IfSome, IfSome_then, IfYes, IsAnswer, IsExplainText, IsExplained, IsNoText, IsNoYes, IsTold, LeavesNo, List, Mark, Memory, No, Offence, Ok, Option, Outcome, Puts, ROWS_MAX, Result, RunFault, Scope, Write, Yes, [], ap, append-nil, append_assoc, explanation_text, flat_map, length, map, mark_fields, marks_text, output, record_line, refl, report_text, row_fields, rows_text, sym, ℕ, ◌++◌, ◌<◌, ◌∙◌, ◌∷◌, ◌≡◌}
use Rattle.std.proofs.lemmas.List.Concat.{flat_map-append}
use Rattle.mdb_writing.specs.Written.{HasTaken}
use Rattle.mdb_writing.specs.Output.{Breaks, Output, begun}
use Rattle.mdb_writing.proofs.Outputs.{break_both, put_both, taken_longer}

-- what holds where the verdict is yes
pub if_yes : (outcome : Outcome) (P : Type 0) → P → IfYes outcome (λ report. P)
if_yes (Yes report) P holds = holds
if_yes (No offence) P holds = tt

-- a text that is too long has no yes
pub no_whole : {Over Answer : Type 0} (known : Option (List ℕ))
    → IfSome known (λ text. BYTES_MAX < length text → Over) → (Over → Answer)
    → IfSome known (λ text. BYTES_MAX < length text → Answer)
no_whole known over none = IfSome_then known over (λ text is long. none (is long))

-- What is told of an outcome.
module _ {W : Type 0} (contents : W → Option (List ℕ)) (before after : W)
    (IsText : Outcome → List ℕ → Type 0) (scope : Scope) where
  -- it is an explanation, or a front of one
  pub explained_told : (goal : Goal) (all : List (List (List ℕ)))
      → ((outcome : Outcome) (text : List ℕ) → IsText outcome text
      → IsAnswer scope ROWS_MAX all (Ok outcome))
      → ((outcome : Outcome) (text : List ℕ) → IsText outcome text
      → IsExplainText scope goal all outcome text)
      → (answer : Result Outcome RunFault) → IsTold contents before after IsText answer
      → IsExplained scope goal all (contents before) (contents after) answer
  explained_told goal all are texts (Ok outcome) told = record {
    answer = are outcome told.0 told.1;
    written = (told.0, texts outcome told.0 told.1, told.2);
    cut = λ is. absurd (cc is);
  }
  explained_told goal all are texts (Err Write) told = record {
    answer = tt;
    written = tt;
    cut = λ is. record {
      outcome = told.0;
      is = are told.0 told.1 told.2;
      text = told.1;
      explains = texts told.0 told.1 told.2;
      taken = told.3;
    };
  }
  explained_told goal all are texts (Err Memory) told =
      record { answer = tt; written = tt; cut = λ is. absurd (cc is) }
  explained_told goal all are texts (Err fault) told = absurd told

  -- of a no, the report of `check` was written, and nothing with another fault
  pub leaves_told : ((offence : Offence) (text : List ℕ) → IsText (No offence) text
      → text ≡ report_text scope (No offence))
      → (answer : Result Outcome RunFault) → IsTold contents before after IsText answer
      → LeavesNo contents scope before after answer
  leaves_told are (Ok (Yes report)) told = record { written_no = tt; nothing_written = tt }
  leaves_told are (Ok (No offence)) told =
      record { written_no = rw (are offence told.0 told.1) at told.2; nothing_written = tt }
  leaves_told are (Err Write) told =
      record { written_no = tt; nothing_written = λ not. absurd (not refl) }
  leaves_told are (Err Memory) told = record { written_no = tt; nothing_written = λ not. told }
  leaves_told are (Err fault) told = absurd told

-- a no is no yes
pub no_yes_told : {W : Type 0} (contents : W → Option (List ℕ)) (before after : W) (scope : Scope)
    (offence : Offence) (answer : Result Outcome RunFault)
    → IsTold contents before after (IsNoText scope offence) answer → IsNoYes answer
no_yes_told contents before after scope offence (Ok (Yes report)) told =
    let is = told.1.0 in absurd (cc is)
no_yes_told contents before after scope offence (Ok (No other)) told = tt
no_yes_told contents before after scope offence (Err fault) told = tt

-- Lines.

-- the text of records is that of their lines
lines_of : {X : Type 0} (fields : X → List (List ℕ)) (items : List X)
    → flat_map record_line (map fields items) ≡ flat_map (λ item. record_line (fields item)) items
lines_of fields [] = refl
lines_of fields (item ∷ items) =
    ap (λ more. record_line (fields item) ++ more) (lines_of fields items)

-- the text of an explanation is that of its marks, and then that of its rows
explanation_parts : (marks : List (ℕ × Mark)) (rows : List Event)
    → explanation_text marks rows ≡ marks_text marks ++ rows_text rows
explanation_parts marks rows =
    rw (flat_map-append record_line (map mark_fields marks) (map row_fields rows))
    (cc (lines_of mark_fields marks, lines_of row_fields rows))

-- Room was made for a text.
pub put_room : (before now : Output) (waiting text : List ℕ) → Puts before now []
    → waiting ≡ now.waiting ++ text → Puts before (output now.held waiting) text
put_room before now waiting text made is = record {
  taken = made.taken;
  parts = ap (λ l. l ++ text) (sym (append-nil before.waiting) ∙ made.parts)
      ∙ (append_assoc made.taken now.waiting text ∙ ap (λ l. made.taken ++ l) (sym is));
  grown = made.grown;
}

-- An explanation on its way.
module _ (before : Option (List ℕ)) (empty : Output) (marks : List (ℕ × Mark))
    (rows : List Event) (none : Puts (begun before) empty []) where
  -- its marks and its rows are on their way
  pub explanation_put : (between later : Output) → Puts empty between (marks_text marks)
      → Puts between later (rows_text rows)
      → Puts (begun before) later (explanation_text marks rows)
  explanation_put between later first second =
      rw (explanation_parts marks rows)
      (put_both (begun before) between later (marks_text marks) (rows_text rows)
      (put_both (begun before) empty between [] (marks_text marks) none first) second)

  -- the writer fails at a mark, or at a row
  pub broken_at_marks : (later : Output) → Breaks empty later (marks_text marks)
      → HasTaken before later.held (explanation_text marks rows)
  broken_at_marks later broken =
      rw (explanation_parts marks rows)
      (taken_longer before later.held (marks_text marks) (rows_text rows)
      (break_both (begun before) empty later [] (marks_text marks) none broken))

  pub broken_at_rows : (between later : Output) → Puts empty between (marks_text marks)
      → Breaks between later (rows_text rows)
      → HasTaken before later.held (explanation_text marks rows)
  broken_at_rows between later first broken =
      rw (explanation_parts marks rows)
      (break_both (begun before) between later (marks_text marks) (rows_text rows)
      (put_both (begun before) empty between [] (marks_text marks) none first) broken)
