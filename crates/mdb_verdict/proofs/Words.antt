-- The names of std, of the crates below and of this crate's specs that its proofs share.
pub use Rattle.std.proofs.Common.{Bool, Err, IsOk, List, None, Ok, Option, Result, Some, [], ap, append_assoc, arith, drop, false, inl, inr, length, length-append, refl, subst, suc, sym, take, true, zero, ℕ, ◌++◌, ◌+◌, ◌-◌, ◌<◌, ◌^◌, ◌∙◌, ◌∷◌, ◌≡◌, ◌≤◌, ◌⊎◌}
pub use Rattle.std.proofs.lemmas.List.{append-nil, length-take, length-take-le, take-append-drop, take-take, take_all, take_at}
pub use Rattle.std.specs.Prelude.{IfErr, IfOk, IfSome, IsErrAnd, IsErrOf, IsSome, ◌≢◌}
pub use Rattle.mdb_bus.specs.declared.scope.Scope.{Scope}
pub use Rattle.mdb_follow.specs.FirstOffences.{HasOffence}
pub use Rattle.mdb_follow.specs.Follower.{StandsFor, scope_of}
pub use Rattle.mdb_follow.specs.Report.{IsReport}
pub use Rattle.mdb_follow.specs.Runs.{AllSums, IsReached, Run}
pub use Rattle.mdb_follow.specs.declared.offence.Offence.{Offence}
pub use Rattle.mdb_follow.specs.declared.report.Report.{Report}
pub use Rattle.mdb_records.specs.ToCome.{Advances, IsOverLimit, ToCome, current_fields, fault_of, found_by}
pub use Rattle.mdb_records.specs.declared.ReadFault.{ReadFault}
pub use Rattle.mdb_records.specs.declared.Records.{Records}
pub use Rattle.mdb_text.specs.declared.outcome.Outcome.{Outcome}
pub use Rattle.mdb_text.specs.declared.outcome.Outcome.TheVariants.{No, Yes}
pub use Rattle.mdb_words.specs.Refusals.{IsRefusal}
pub use Rattle.mdb_words.specs.Row.{IsRow}
pub use Rattle.mdb_words.specs.declared.event.Event.{Event}
pub use Rattle.mdb_words.specs.declared.row.RowFault.{RowFault}
pub use Rattle.mdb_verdict.specs.Batch.{ComesAfter, FindsAtMost, FitsIn, HasRead, IsMet}
pub use Rattle.mdb_verdict.specs.Ending.{EndsAfter, FindsUpTo, HasEnded, HasFirst, HasFollowedRows, HasTakenOrStopped, IsHeard, IsToldEnd, IsYes, StopsAmong, goes_on_by, run_fault_of}
pub use Rattle.mdb_verdict.specs.Rows.{AreRows}
pub use Rattle.mdb_verdict.specs.Telling.{HasCause, IsOwnAnswer}
pub use Rattle.mdb_verdict.specs.Unanswered.{IsTakenInPart, IsUnanswered}
pub use Rattle.mdb_verdict.specs.Verdict.{AreAll, AreRead, IsAnswer, IsImpossible, IsNoYes, IsPossible, IsStopped, IsTakenToBadRow, IsTakenToLimit, IsTakenWhole}
pub use Rattle.mdb_verdict.specs.declared.batch.Next.{Next}
pub use Rattle.mdb_verdict.specs.declared.fault.RunFault.{RunFault}
pub use Rattle.mdb_verdict.specs.declared.fault.RunFault.TheVariants.{BadRow, Memory, Read, TooLong, Write}
