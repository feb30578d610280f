-- The names of std, of the crates below and of this crate's specs that its proofs share.
pub use Rattle.csv.specs.Reading.{default_config, records, records as read_records, strip_bom}
pub use Rattle.std.proofs.Common.{All, Bool, Err, List, None, Ok, Option, Result, Some, [], ap, append_assoc, arith, drop, false, flat_map, get_or, inl, inr, is_some, length, length-append, map, refl, subst, suc, sym, take, true, ℕ, ◌*◌, ◌++◌, ◌+◌, ◌<◌, ◌==◌, ◌^◌, ◌↔◌, ◌∙◌, ◌∷◌, ◌≡◌, ◌≢◌, ◌≤◌, ◌⊎◌}
pub use Rattle.std.proofs.lemmas.Grind.{common_steps}
pub use Rattle.std.proofs.lemmas.List.{append-nil, length-map, map_push, take_all, take_more}
pub use Rattle.std.proofs.lemmas.List.Elements.{All-head, All-tail}
pub use Rattle.std.proofs.lemmas.Option.{IfSome_then}
pub use Rattle.std.specs.Fmt.{decimal}
pub use Rattle.std.specs.Prelude.{IfErr, IfSome, IsErrAnd, if◌then◌else◌}
pub use Rattle.mdb_writing.specs.Output.{Puts, output}
pub use Rattle.mdb_words.specs.Row.{IsRow, break_letter, letter_of}
pub use Rattle.mdb_words.specs.RowsWritten.{hex_word, row_fields}
pub use Rattle.mdb_words.specs.declared.event.Event.{Event}
pub use Rattle.mdb_bus.specs.Scopes.{from_power_on}
pub use Rattle.mdb_bus.specs.declared.scope.Scope.{Scope}
pub use Rattle.mdb_follow.specs.declared.follower.TheConstants.{ROWS_MAX}
pub use Rattle.mdb_follow.specs.declared.goal.Goal.{Goal}
pub use Rattle.mdb_follow.specs.declared.offence.Offence.{Offence}
pub use Rattle.mdb_follow.specs.declared.report.Report.{Report}
pub use Rattle.mdb_run_search.specs.Marks.{Rise, StandsWithin, choices_in, marks_of, with_mark}
pub use Rattle.mdb_run_search.specs.ReplayFaults.{HasMarkedRun, IsReplayFault, SplitAt}
pub use Rattle.mdb_run_search.specs.declared.mark.Mark.{Mark}
pub use Rattle.mdb_text.specs.Text.{report_text}
pub use Rattle.mdb_text.specs.declared.outcome.Outcome.{Outcome}
pub use Rattle.mdb_text.specs.declared.outcome.Outcome.TheVariants.{No, Yes}
pub use Rattle.mdb_verdict.proofs.Rows.{empty, parts_of}
pub use Rattle.mdb_verdict.proofs.Verdicts.{is_fault}
pub use Rattle.mdb_verdict.specs.Headline.{HaveRun, IfYes}
pub use Rattle.mdb_verdict.specs.Rows.{AreRows}
pub use Rattle.mdb_verdict.specs.Telling.{IsOwnAnswer}
pub use Rattle.mdb_verdict.specs.Verdict.{AreRead, IsAnswer, IsNoYes, IsStopped, IsTakenWhole}
pub use Rattle.mdb_verdict.specs.declared.fault.RunFault.{RunFault}
pub use Rattle.mdb_verdict.specs.declared.fault.RunFault.TheVariants.{Memory, Write}
pub use Rattle.mdb_verdict.specs.declared.verdict.TheConstants.{BYTES_MAX}
pub use Rattle.mdb_explain.specs.Replay.{AreMarkRows, CanBe, DoesNotRise, HasMarkedCause, InputPart, IsForMark, IsMarkRefusal, IsMarkRow, IsOwnReplay, IsRefusedAfter, IsReplayAnswer, IsReplayed, IsStopAt, LeadUpToPart, RiseAbove, StopsAt, all_marks, dash, mark_at, mark_letter, records_in}
pub use Rattle.mdb_explain.specs.declared.entry.Entry.{Entry}
pub use Rattle.mdb_explain.specs.declared.fault.MarkedFault.{MarkedFault}
pub use Rattle.mdb_explain.specs.inner.Entries.{IsBadMark, IsEntry, IsNoEntry, stop_by}
pub use Rattle.mdb_explain.specs.inner.Explaining.{HasKept, IsNoText, IsRowsText, IsTold, StopsKeeping, mark_line, marks_text, row_line, rows_text}
pub use Rattle.mdb_explain.specs.inner.Replaying.{Finishes, HasReplayed, IsStoppedAt, entries_of, mark_entry}
pub use Rattle.mdb_verdict.proofs.Headline.{FrontsAreReached, as_many, one_list}
pub use Rattle.mdb_verdict.proofs.OneAnswer.{GoesOn, compared, one_refusal, row_not_refused, row_one}
pub use Rattle.mdb_words.proofs.Numerals.{IsDecimal-decimal, IsDecimal-lt}
pub use Rattle.mdb_words.specs.declared.row.RowFault.{RowFault}
pub use Rattle.mdb_words.specs.declared.row.RowFault.TheVariants.{BadLine, BadTime, BadValue, FieldCount}
pub use Rattle.mdb_explain.specs.Explain.{ComesTo, IsExplainText, IsExplained, IsExplanation, LeavesNo, explanation_records, explanation_text, goal_range, mark_fields, record_line}
pub use Rattle.mdb_explain.specs.declared.replaying.Replaying.{Replaying}
pub use Rattle.mdb_run_search.specs.Replays.{IsReplayReport, StandsFor, rows_of, scope_of}
pub use Rattle.mdb_run_search.specs.declared.replay.ReplayFault.{ReplayFault}
