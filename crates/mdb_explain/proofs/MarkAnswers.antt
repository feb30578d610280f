-- What is answered, by how the reading of entries ended.
use Rattle.mdb_explain.proofs.Words.{AreMarkRows, AreRows, CanBe, Entry, Err, Event, Finishes, HasMarkedCause, HasReplayed, IfErr, InputPart, IsEntry, IsNoEntry, IsReplayAnswer, IsStoppedAt, LeadUpToPart, List, Mark, MarkedFault, No, Offence, Ok, Option, Outcome, ROWS_MAX, Replaying, Result, RunFault, Scope, StopsAt, Yes, [], all_marks, ap, append-nil, arith, entries_of, inl, inr, length, map, mark_entry, parts_of, sym, ℕ, ◌++◌, ◌∙◌, ◌∷◌, ◌≡◌, ◌≢◌}
use Rattle.mdb_explain.specs.declared.entry.Entry.TheVariants as entries
use Rattle.mdb_explain.specs.declared.fault.MarkedFault.TheVariants as marked
use Rattle.mdb_verdict.specs.declared.fault.RunFault.TheVariants as run
use Rattle.mdb_records.specs.declared.ReadFault.{ReadFault}
use Rattle.mdb_verdict.specs.Unanswered.{IsUnanswered}
use Rattle.mdb_verdict.specs.Verdict.{AreAll, AreRead, IsStopped, IsTakenWhole}
use Rattle.mdb_explain.proofs.EntryByEntry.{entries_count}

-- Records that are read as the entries of a part are mark rows, and then rows.

all_mark_rows : (records : List (List (List ℕ))) (marks : List (ℕ × Mark))
    → AreAll IsEntry records (map mark_entry marks) → AreMarkRows records marks
all_mark_rows [] [] told = tt
all_mark_rows (fields ∷ records) (mark ∷ marks) told = (told.0, all_mark_rows records marks told.1)
all_mark_rows records marks told = absurd told

all_rows : (records : List (List (List ℕ))) (rows : List Event)
    → AreAll IsEntry records (map entries.Row rows) → AreRows records rows
all_rows [] [] told = tt
all_rows (fields ∷ records) (row ∷ rows) told = (told.0, all_rows records rows told.1)
all_rows records rows told = absurd told

module _ (scope : Scope) (all : List (List (List ℕ))) where
  -- so they lead up to what comes after them
  leading : {taken : List Entry} (part : InputPart) {rest : List (List (List ℕ))}
      → AreRead IsEntry all taken rest → taken ≡ entries_of part → CanBe scope ROWS_MAX part
      → LeadUpToPart scope ROWS_MAX all part rest
  leading part {rest = rest} read are can =
      let parts = parts_of IsEntry read.done (map mark_entry (all_marks part))
      (map entries.Row part.rows) (rw are at read.told) in
      record {
        mark_rows = parts.done;
        transcript = parts.after;
        split = read.split ∙ ap (λ l. l ++ rest) parts.is;
        are_marks = all_mark_rows parts.done (all_marks part) parts.told;
        are_rows = all_rows parts.after part.rows parts.others;
        can_be = can;
      }

  -- The answers.

  -- the text ends
  pub whole : {limit : ℕ} (taker : Replaying)
      → IsTakenWhole IsEntry (HasReplayed scope taker) limit all
      → (answer : Result Outcome MarkedFault)
      → ((taken : List Entry) → HasReplayed scope taker taken → Finishes scope taken answer)
      → IsReplayAnswer scope ROWS_MAX all answer
  whole taker ended answer finishes = told answer (finishes ended.rows ended.has)
    where
      read : AreRead IsEntry all ended.rows []
      read = record { done = all; split = sym (append-nil all); told = ended.told }

      told : (answer : Result Outcome MarkedFault) → Finishes scope ended.rows answer
          → IsReplayAnswer scope ROWS_MAX all answer
      told (Ok (Yes report)) is =
          let lead = leading is.part read is.are is.can_be in
          let marks : all_marks is.part ≡ is.part.passed = rw is.none (append-nil is.part.passed) in
          record {
            marks = is.part.passed;
            rows = is.part.rows;
            mark_rows = lead.mark_rows;
            transcript = lead.transcript;
            split = rw append-nil at lead.split;
            are_marks = rw marks at lead.are_marks;
            are_rows = lead.are_rows;
            few_marks = rw marks at is.can_be.few_marks;
            few_rows = is.can_be.few_rows;
            is = is.is;
          }
      told (Err (marked.Mark row)) is = inr (record {
        part = is.part;
        leads = leading is.part read is.are is.can_be;
        mark = is.mark;
        more = is.more;
        first = is.first;
      })
      told (Ok (No offence)) is = absurd is
      told (Err (marked.Run fault)) is = absurd is

  -- an entry isn't taken
  pub stops : {limit : ℕ} (stop : Result Offence MarkedFault)
      → IsStopped IsEntry (λ taken entry. IsStoppedAt scope taken entry stop) limit all
      → StopsAt scope ROWS_MAX all stop
  stops stop ended =
      let at = ended.stops in
      record {
        part = at.part;
        fields = ended.fields;
        rest = ended.rest;
        leads = leading at.part ended.read at.are at.can_be;
        is = at.is ended.fields ended.told;
      }

  pub stopped : {limit : ℕ} (fault : MarkedFault)
      → IsStopped IsEntry (λ taken entry. IsStoppedAt scope taken entry (Err fault)) limit all
      → IsReplayAnswer scope ROWS_MAX all (Err fault)
  stopped (marked.Run (run.BadRow row fault)) ended =
      stops (Err (marked.Run (run.BadRow row fault))) ended
  stopped (marked.Run run.TooLong) ended = stops (Err (marked.Run run.TooLong)) ended
  stopped (marked.Mark row) ended = inl (stops (Err (marked.Mark row)) ended)
  stopped (marked.Run fault) ended = tt

  -- a record can't be read: none is one too many that wasn't stopped at
  pub refused : (taker : Replaying) (fault : RunFault)
      → IsUnanswered IsEntry IsNoEntry (HasReplayed scope taker) 200000001 all fault
      → IsReplayAnswer scope ROWS_MAX all (Err (marked.Run fault))
  refused taker (run.BadRow row fault) ended = absurd ended.refused
  refused taker run.TooLong ended =
      let can = ended.has.can_be in
      absurd (omega (
        arith,
        entries_count ended.has.part,
        ap length ended.has.are,
        ended.full,
        can.few_marks,
        can.few_rows,
      ))
  refused taker fault ended = tt

-- a failed read is told as such alone
pub cause_unread : (answer : Result Outcome MarkedFault) (met : Option ReadFault)
    → IfErr answer (λ fault. fault ≢ marked.Run run.Read) → IfErr answer (HasMarkedCause met)
cause_unread (Ok outcome) met unread = tt
cause_unread (Err fault) met unread = λ read. absurd (unread read)
