-- The names of std, of the crates below and of this crate's specs that its proofs share.
pub use Rattle.serde_json.specs.Written.{has_float}
pub use Rattle.std.specs.Prelude.{OnOk}
pub use Rattle.std.proofs.Common.{[], ap, append_assoc, ap₂, arith, Bool, Err, false, IfErr, if◌then◌else◌, inl, inr, IsErr, length, length-append, List, map, Ok, Option, refl, Result, rules, subst, sym, take, true, ℕ, ◌++◌, ◌+◌, ◌-◌, ◌==◌, ◌∙◌, ◌∷◌, ◌≡◌, ◌≤◌}
pub use Rattle.mdb_writing.proofs.Outputs.{break_both, put_begun, put_both}
pub use Rattle.mdb_writing.specs.Output.{begun, Output, output, Puts}
pub use Rattle.mdb_words.specs.declared.event.Event.{Event}
pub use Rattle.mdb_records.specs.ToCome.{found_by}
pub use Rattle.mdb_bus.specs.Scopes.{profile_of}
pub use Rattle.mdb_bus.specs.declared.scope.Scope.{Scope}
pub use Rattle.mdb_follow.specs.Runs.{AllSums, IsReached, Run}
pub use Rattle.mdb_follow.specs.declared.follower.TheConstants.{ROWS_MAX}
pub use Rattle.mdb_surveyor.specs.Stretches.{first_place, IsSurvey, LeadFrom, stretch_at}
pub use Rattle.mdb_surveyor.specs.Summaries.{summary_of}
pub use Rattle.mdb_surveyor.specs.Surveyor.{rows_of}
pub use Rattle.mdb_surveyor.specs.declared.stretch.Ended.{Ended}
pub use Rattle.mdb_surveyor.specs.declared.stretch.Stretch.{Stretch}
pub use Rattle.mdb_surveyor.specs.declared.summary.Summary.{Summary}
pub use Rattle.mdb_surveyor.specs.declared.surveyor.Surveyor.{Surveyor}
pub use Rattle.mdb_text.specs.declared.form.Form.{Form}
pub use Rattle.mdb_surveyor.specs.Lines.{ended_lines, LineForm, lines_of}
pub use Rattle.mdb_verdict.proofs.Tellings.{not_taken_of_output, reads_all, reads_fault, reads_finished, reads_output, told}
pub use Rattle.mdb_verdict.proofs.Verdicts.{is_fault}
pub use Rattle.mdb_verdict.specs.Telling.{IsNotTaken, IsOfOutput}
pub use Rattle.mdb_verdict.specs.declared.fault.RunFault.{RunFault}
pub use Rattle.mdb_verdict.specs.declared.fault.RunFault.TheVariants.{BadRow, Memory, Read, TooLong, Write}
pub use Rattle.mdb_survey.specs.Survey.{HasAllLines, HasFaultLines, HasLines, IsSurveying, survey_lines_in}
pub use Rattle.mdb_survey.specs.SurveyJson.{device_member, device_total, devices_total, some_total, stretch_data, summary_data, total_data}
pub use Rattle.mdb_survey.specs.inner.SurveyLines.{HasAddedEnd, HasAddedLast, HasStopped, HasSurveyed, LeadInto, PutsSurveying}
